-- The laws of zeros behind the first six of sixteen octets, which are compared as numbers. Assumes nothing.
use mathlib.Core.Path.{◌≡◌, refl, sym, ap, ◌∙◌}
use mathlib.Core.Bool.{Bool, true, false, ◌&&◌}
use mathlib.Core.List.{List, [], ◌∷◌}
use Prim.Native.Nat.{ℕ, ◌+◌, ◌*◌, ◌≤◌}
use native.Mathlib.Omega.{arith}
use lib.Dec.{eqb}
use lib.ListN.{length, get_or, drop, drop_of_length-le}
use lib.Seq.{drop-cons}
use borrow.Table.Steps.{cases}
use borrow.Author.Tests.{eq-eqb, ne_eqb, eqb-true, eqb-false}
use Rattle.octets.specs.Word.{value}
use Rattle.lease.specs.Lease.{all_zero}

value_zero : (l : List ℕ) → eqb (value l) 0 ≡ all_zero l
unfolding all_zero value
value_zero [] = refl
value_zero (x ∷ xs) =
    cases (eqb x 0)
    (λ e.
    cases (eqb (value xs) 0)
    (λ f. let z : x + 256 * value xs ≡ 0 = omega (arith, eqb-true x 0 e, eqb-true (value xs) 0 f) in rw (e, z) (sym f ∙ value_zero xs))
    (λ f. rw e (ne_eqb (x + 256 * value xs) 0 (λ q. eqb-false (value xs) 0 f (omega (arith, q))) ∙ sym f ∙ value_zero xs)))
    (λ e. rw e (ne_eqb (x + 256 * value xs) 0 (λ q. eqb-false x 0 e (omega (arith, q)))))

module _ (s : List ℕ) (n : length s ≡ 16) where
  abbrev back : List ℕ
  back = get_or s 8 0 ∷ get_or s 9 0 ∷ get_or s 10 0 ∷ get_or s 11 0 ∷ get_or s 12 0 ∷ get_or s 13 0 ∷ get_or s 14 0 ∷ get_or s 15 0 ∷ []

  back_is : drop 6 s ≡ get_or s 6 0 ∷ get_or s 7 0 ∷ back
  back_is = rw (drop-cons s 6 0 (omega arith), drop-cons s 7 0 (omega arith), drop-cons s 8 0 (omega arith), drop-cons s 9 0 (omega arith), drop-cons s 10 0 (omega arith), drop-cons s 11 0 (omega arith), drop-cons s 12 0 (omega arith), drop-cons s 13 0 (omega arith), drop-cons s 14 0 (omega arith), drop-cons s 15 0 (omega arith), drop_of_length-le s (let h : length s ≤ 16 = omega arith in h))

  zeros_are : (b : Bool) → eqb (value back) 0 ≡ b → all_zero (drop 6 s) ≡ (eqb (get_or s 6 0) 0 && (eqb (get_or s 7 0) 0 && b))
  unfolding all_zero
  zeros_are b e = ap all_zero back_is ∙ ap (λ t. eqb (get_or s 6 0) 0 && (eqb (get_or s 7 0) 0 && t)) (sym (value_zero back) ∙ e)

  pub tail_broken : (value back ≡ 0 → ⊥) → all_zero (drop 6 s) ≡ false
  tail_broken h = zeros_are false (ne_eqb _ _ h) ∙ cases (eqb (get_or s 6 0) 0) (λ e. rw e (cases (eqb (get_or s 7 0) 0) (λ f. rw f) (λ f. rw f))) (λ e. rw e)

  pub tail_of_6 : value back ≡ 0 → eqb (value (get_or s 6 0 ∷ get_or s 7 0 ∷ 0 ∷ 0 ∷ [])) 0 ≡ all_zero (drop 6 s)
  unfolding all_zero
  tail_of_6 h = value_zero (get_or s 6 0 ∷ get_or s 7 0 ∷ 0 ∷ 0 ∷ []) ∙ sym (zeros_are true (eq-eqb _ _ h))
