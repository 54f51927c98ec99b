-- How often a packet has an option, and where the value of one stands. Document 01, "Lease table and queries".
use Rattle.std.specs.Prelude.{ℕ, zero, suc, ◌+◌, cond, List, [], ◌∷◌, eqb, length, get_or, Some, None, Result, Ok, Err}
use Rattle.std.specs.Prelude as std
use Rattle.std.proofs.Math.Option.{Option, none, some}
use Rattle.leasepacket.specs.declared.options.Place.{Place}
use Rattle.leasepacket.specs.declared.options.Fault.{Fault}
use Rattle.leasepacket.specs.declared.options.Fault.TheVariants.{Broken, Repeated}
use Rattle.leasepacket.specs.Packet.{option_area}
use Rattle.leasepacket.specs.Options.{Opt, options, values}

-- The place of the only option of a code, or none where there is no such option; or the fault: the options can't be read, or it is repeated.
abbrev pub Occurrence : Type 0
Occurrence = Result (std.Option Place) Fault

-- How many octets stand before the value of the first option of a code, in octets that hold options; the first number says how many are
-- still to pass, as in `options`. Where there is no such option the number means nothing.
unfoldable pub before : ℕ → ℕ → List ℕ → ℕ
before code passing [] = 0
before code (suc passing) (x ∷ rest) = suc (before code passing rest)
before code zero (x ∷ rest) =
    cond (eqb x 255) 0
    (cond (eqb x 0) (suc (before code 0 rest))
    (cond (eqb x code) 2 (suc (before code (suc (get_or rest 0 0)) rest))))

-- Where that value stands in a packet.
unfoldable pub place_of : ℕ → List ℕ → ℕ
place_of code p = 240 + before code 0 (option_area p)

-- By the values of the options of a code, the first at a place: none, one, or more.
abbrev pub counted : ℕ → List (List ℕ) → Occurrence
counted at [] = Ok None
counted at (v ∷ []) = Ok (Some (record { at = at; len = length v }))
counted at (v ∷ w ∷ vs) = Err Repeated

abbrev pub occurrence_in : ℕ → ℕ → Option (List Opt) → Occurrence
occurrence_in code at none = Err Broken
occurrence_in code at (some os) = counted at (values code os)

unfoldable pub occurrence : ℕ → List ℕ → Occurrence
occurrence code p = occurrence_in code (place_of code p) (options 0 (option_area p))
