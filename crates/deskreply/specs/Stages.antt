-- What the functions below the exported call hand on. Only their contracts cite this.
use Rattle.std.specs.Prelude.{ℕ, ◌%◌, ◌≤◌, Bool, cond, is_some, Some, None, ◌&&◌, List, [], ◌∷◌, leb, eqb, length, replicate}
use Rattle.std.specs.Prelude as std
use Rattle.std.specs.Option.{unwrap_or}
use Rattle.std.proofs.Math.Option.{Option, none, some}
use Rattle.clock.specs.declared.Span.{Span}
use Rattle.clock.specs.Clock.{span}
use Rattle.octets.specs.Write.{laid}
use Rattle.leasepacket.specs.Packet.{op, htype, hlen, ciaddr, chaddr, is_packet}
use Rattle.leasepacket.specs.Options.{has_options}
use Rattle.deskreply.specs.declared.LeaseReading.{LeaseReading}
use Rattle.deskreply.specs.declared.Refusal.{Refusal}
use Rattle.deskreply.specs.declared.Refusal.TheVariants.{NotReply, OtherXid}
use Rattle.deskreply.specs.declared.fields.Addresses.{Addresses}

-- a length that an option may have
abbrev pub fits_in : ℕ → ℕ → ℕ → ℕ → Bool
fits_in n least most unit = leb least n && leb n most && eqb (n % unit) 0

-- the packet checks 1 and 3, op and hlen
abbrev pub has_fields : List ℕ → Bool
has_fields p = is_packet p && has_options p && eqb (op p) 2 && leb (hlen p) 16

-- the only value of an option has at most 252 octets
abbrev pub Short : List (List ℕ) → Type 0
Short [] = Unit {0}
Short (v ∷ []) = length v ≤ 252
Short (v ∷ w ∷ vs) = Unit {0}

-- the number of a refusal
abbrev pub number_of : Refusal → ℕ
number_of NotReply = 20
number_of OtherXid = 21

-- a time, and a list of addresses in numbers
abbrev pub time_of : std.Option Span → Option Span
time_of None = none
time_of (Some s) = some s

abbrev pub addresses_of : List ℕ → Addresses
addresses_of list = record { count = length list; list = laid list (replicate 63 0) }

-- the answer with the fixed fields of a packet
abbrev pub filled : List ℕ → ℕ → std.Option Span → std.Option Span → Addresses → LeaseReading
filled p kind left since listed =
    record {
      refusal = 0;
      kind = kind;
      address = ciaddr p;
      has_left = cond (is_some left) 1 0;
      left = unwrap_or left (span 0);
      has_since = cond (is_some since) 1 0;
      since = unwrap_or since (span 0);
      count = listed.count;
      addresses = listed.list;
      chaddr = chaddr p;
      htype = htype p;
      hlen = hlen p;
    }
