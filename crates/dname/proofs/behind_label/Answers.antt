use Rattle.std.proofs.Common.{ℕ, ◌≡◌, ◌<◌, ◌≤◌, List, ◌∷◌, Option, Some, None, MatchOption, Bor, length, arith, inl, inr, sym, subst, ◌∙◌}
use Rattle.std.specs.Slice.{IsGetRangeResult}
use Rattle.dname.specs.Name.{labels_of}
use Rattle.dname.specs.Reading.{Passed, ending}
use Rattle.dname.proofs.NameLaws.{part_rest}
use Rattle.dname.proofs.ReadingLaws.{ends_nothing, ends_octet, ends_cut, passes_label}
use Rattle.dname.proofs.behind_label.Goals as goal

-- behind the octets of a label, if all of them are there
behind : (n : ℕ) (s : List ℕ) (r : Option (Bor (List ℕ))) → 0 < n → n ≤ 63 → IsGetRangeResult s n (length s) r
    → MatchOption r (labels_of 0 (n ∷ s) ≡ ending (n ∷ s)) (λ rest. Passed (n ∷ s) rest.now)
behind n s None p h g = ends_cut n s p h (elim g.0 [ inl l ↦ l | inr l ↦ absurd (omega arith) ])
behind n s (Some rest) p h g = subst (λ (t : List ℕ). Passed (n ∷ s) t) (sym (g.0.2 ∙ part_rest s n)) (passes_label n s p h g.0.0)

pub returns-in_err-octets : goal.returns-in_err-octets
returns-in_err-octets c = rw c.from_residual.ensures (ends_nothing _ c.in_err-octets.ensures.cases)

pub returns-in_default : goal.returns-in_default
returns-in_default c = rw c.in_ok-octets.ensures.cases.0 (ends_octet c.in_ok-octets.octets.now _ (λ p. omega arith))

pub returns-in-1-to-63 : goal.returns-in-1-to-63
returns-in-1-to-63 c =
    rw c.in_ok-octets.ensures.cases.0 (behind c.in_ok-octets.octets.now c.in_ok-octets.rest.now _ (omega arith) (omega arith) (rw c.from.ensures at c.get.ensures.lookup))
