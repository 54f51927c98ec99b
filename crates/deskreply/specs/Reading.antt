-- What a reply tells. Document 02, d).
use Rattle.std.specs.Prelude.{ℕ, zero, suc, ◌/◌, cond, List, [], ◌∷◌, eqb, length, drop}
use Rattle.std.proofs.Math.Option.{Option, none, some}
use Rattle.clock.specs.declared.Span.{Span}
use Rattle.clock.specs.Clock.{span}
use Rattle.octets.specs.Number.{number_at}
use Rattle.leasepacket.specs.Packet.{htype, hlen, xid, ciaddr, chaddr, lease_time, last_transaction_time, associated_ip}
use Rattle.leasepacket.specs.Options.{values_in}
use Rattle.deskreply.specs.Reply.{kind_of, is_reply}

-- The fields of a reply. The seconds left and the seconds since the last transaction are spans, and may be absent.
pub record Told : Type 0 where
  pub kind : ℕ
  pub address : ℕ
  pub htype : ℕ
  pub hlen : ℕ
  pub chaddr : List ℕ
  pub left : Option Span
  pub since : Option Span
  pub addresses : List ℕ

-- A time, by the values of its option: four octets.
abbrev pub time_by : List (List ℕ) → Option Span
time_by [] = none
time_by (v ∷ []) = some (span (number_at 4 v 0))
time_by (v ∷ w ∷ vs) = none

-- As many numbers as the first says, of four octets each.
unfoldable pub numbers : ℕ → List ℕ → List ℕ
numbers zero v = []
numbers (suc n) v = number_at 4 v 0 ∷ numbers n (drop 4 v)

-- The addresses, by the values of their option: four octets each.
abbrev pub addresses_by : List (List ℕ) → List ℕ
addresses_by [] = []
addresses_by (v ∷ []) = numbers (length v / 4) v
addresses_by (v ∷ w ∷ vs) = []

-- What a well-formed reply tells. Times and addresses are only those of an active lease.
module _ (p : List ℕ) where
  abbrev when_active : {A : Type 0} → A → A → A
  when_active active other = cond (eqb (kind_of p) 13) active other

  unfoldable pub tells : Told
  tells =
      record {
        kind = kind_of p;
        address = ciaddr p;
        htype = htype p;
        hlen = hlen p;
        chaddr = chaddr p;
        left = when_active (time_by (values_in lease_time p)) none;
        since = when_active (time_by (values_in last_transaction_time p)) none;
        addresses = when_active (addresses_by (values_in associated_ip p)) [];
      }

-- What a call comes to: a refusal, or what the reply tells.
pub data Reading : Type 0 where
  refusal : ℕ → Reading
  told : Told → Reading

-- The call: 20 for a packet that is no well-formed reply, then 21 for one with another xid than the desk's.
unfoldable pub reading : ℕ → List ℕ → Reading
reading wanted p = cond (is_reply p) (cond (eqb (xid p) wanted) (told (tells p)) (refusal 21)) (refusal 20)
