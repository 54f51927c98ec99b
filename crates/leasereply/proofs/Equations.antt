-- The equations of specs/Equations.antt. Assumes nothing.
use Prim.Native.Nat.{ℕ}
use mathlib.Core.Path.{◌≡◌, refl, ◌∙◌}
use mathlib.Core.Bool.{Bool, true, false, cond}
use mathlib.Core.List.{List, [], ◌∷◌, ◌++◌, append-nil}
use mathlib.Core.Option.{Option, none, some}
use native.Mathlib.Omega.{arith}
use lib.ListN.{take}
use Rattle.clock.specs.declared.Moment.{Moment}
use Rattle.clock.specs.Clock.{seconds_left, seconds_since}
use Rattle.octets.specs.Number.{big_endian}
use Rattle.octets.proofs.NumberLaws.{length_big_endian}
use Rattle.lease.specs.declared.Lease.{Lease}
use Rattle.leasepacket.specs.Layout.{option, encoded}
use Rattle.leasepacket.specs.Requested.{request_list, requested_by}
use Rattle.leasepacket.specs.ReplyOptions.{held}
use Rattle.leasepacket.proofs.SentLaws.{encoded_held}
use Rattle.leasereply.specs.Reply.{options_of, of_lease, flat, asked, about_lease}
use Rattle.leasereply.specs.Equations.{optional, Equations}
use Rattle.leasereply.proofs.ReplyLaws.{other_parts, active_parts}

-- an option, sent or not
held_is : (code : ℕ) (v : List ℕ) → encoded (held code v) ≡ optional code v
unfolding encoded
held_is code [] = refl
held_is code (x ∷ xs) = append-nil (option code (x ∷ xs))

asked_is : (b : Bool) (code : ℕ) (v : List ℕ) → asked b code v ≡ cond b (optional code v) []
unfolding encoded
asked_is true code v = held_is code v
asked_is false code v = refl

number_is : (b : Bool) (code v : ℕ) → asked b code (big_endian 4 v) ≡ cond b (option code (big_endian 4 v)) []
unfolding encoded
number_is true code v = let l = length_big_endian 4 v in encoded_held code (big_endian 4 v) (omega (arith, l))
number_is false code v = refl

module _ (clock : Moment) (server : ℕ) (query : List ℕ) (x : Lease) (addresses : List ℕ) where
  -- by any list
  abbrev under : Option (List ℕ) → ℕ → List ℕ → List ℕ
  under list code octets = cond (requested_by code list) octets []

  by_list : (list : Option (List ℕ)) → request_list query ≡ list → options_of 13 query (of_lease clock server x addresses) ≡ option 53 (13 ∷ []) ++ option 54 (big_endian 4 server)
      ++ (under list 51 (option 51 (big_endian 4 (seconds_left x.expiry clock).0)) ++ under list 61 (optional 61 (take x.idlen x.id))
      ++ under list 82 (optional 82 (take x.relaylen x.relay)) ++ under list 91 (option 91 (big_endian 4 (seconds_since x.last clock).0)))
      ++ optional 92 (flat addresses) ++ (255 ∷ [])
  unfolding about_lease
  by_list list e =
      active_parts query [] server clock x addresses
      ∙ rw (e, number_is (requested_by 51 list) 51 (seconds_left x.expiry clock).0, asked_is (requested_by 61 list) 61 (take x.idlen x.id), asked_is (requested_by 82 list) 82 (take x.relaylen x.relay), number_is (requested_by 91 list) 91 (seconds_since x.last clock).0, held_is 92 (flat addresses)) refl

pub equations : Equations
equations =
    record {
      other = λ kind server query. other_parts query [] server kind;
      in_full = λ clock server query x addresses e. by_list clock server query x addresses none e;
      as_listed = λ clock server query codes x addresses e. by_list clock server query x addresses (some codes) e;
    }
