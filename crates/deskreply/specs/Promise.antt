-- What the call that reads a reply promises. Document 02, d).
use Rattle.std.specs.Prelude.{ℕ, ◌≡◌, List, length, replicate}
use Rattle.std.proofs.Math.Option.{Option, none, some}
use Rattle.clock.specs.declared.Span.{Span}
use Rattle.clock.specs.Clock.{span}
use Rattle.octets.specs.Write.{laid}
use Rattle.deskreply.specs.declared.LeaseReading.{LeaseReading}
use Rattle.deskreply.specs.Reading.{Reading, refusal, told, reading}

-- Whether a time is there, 1 or 0, and the time, 0 where it is not.
abbrev pub is_there : Option Span → ℕ
is_there none = 0
is_there (some s) = 1

abbrev pub time_or_zero : Option Span → Span
time_or_zero none = span 0
time_or_zero (some s) = s

-- The numbers that the call answers. Beside a refusal all are 0; behind the addresses stand zeros.
abbrev pub answered : Reading → LeaseReading
answered (refusal n) =
    record {
      refusal = n;
      kind = 0;
      address = 0;
      has_left = 0;
      left = span 0;
      has_since = 0;
      since = span 0;
      count = 0;
      addresses = replicate 63 0;
      chaddr = replicate 16 0;
      htype = 0;
      hlen = 0;
    }
answered (told t) =
    record {
      refusal = 0;
      kind = t.kind;
      address = t.address;
      has_left = is_there t.left;
      left = time_or_zero t.left;
      has_since = is_there t.since;
      since = time_or_zero t.since;
      count = length t.addresses;
      addresses = laid t.addresses (replicate 63 0);
      chaddr = t.chaddr;
      htype = t.htype;
      hlen = t.hlen;
    }

-- A call with the xid of the desk's query and the octets of a reply.
abbrev pub ReadPromise : ℕ → List ℕ → LeaseReading → Type 0
ReadPromise xid reply result = result ≡ answered (reading xid reply)
