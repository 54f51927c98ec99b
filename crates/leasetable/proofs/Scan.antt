-- The law of a scan of a lent slice: `if off(a) { return a; } let mut acc = a; let mut i = 0; while i < t.len() { let x = t[i]; i += 1; if wants(acc, x) { acc = add(acc, x); } } acc`,
-- for any elements, anything that is carried, any test and any step. A function of this shape ensures `result ≡ cond (off a) a (foldl turn a t.now)`, where `turn a x` is `cond (wants a x) (add a x) a`:
-- the invariant of its loop is that the fold of what is carried so far over the elements from i on is the whole fold. Assumes nothing.
use mathlib.Core.Path.{◌≡◌, sym, ap, ◌∙◌}
use mathlib.Core.Bool.{Bool, false, cond}
use mathlib.Core.List.{List, ◌∷◌, foldl}
use Prim.Native.Nat.{ℕ, ◌+◌, ◌<◌}
use native.Mathlib.Numerals.{add-one}
use lib.ListN.{length, get_or, drop}
use lib.Seq.{drop-cons}

module _ {X A : Type 0} (wants : A → X → Bool) (add : A → X → A) where
  abbrev pub turn : A → X → A
  turn a x = cond (wants a x) (add a x) a

  -- the first element from i on is folded
  turned : (t : List X) (i : ℕ) (x : X) (acc r : A) → i < length t → r ≡ turn acc (get_or t i x) → foldl turn acc (drop i t) ≡ foldl turn r (drop (i + 1) t)
  turned t i x acc r h e =
      ap (foldl turn acc) (drop-cons t i x h ∙ ap (λ (k : ℕ). get_or t i x ∷ drop k t) (sym (add-one i)))
      ∙ ap (λ (z : A). foldl turn z (drop (i + 1) t)) (sym e)

  -- an element that is not wanted is passed
  pub scan_passes : (t : List X) (i : ℕ) (x d : X) (acc : A) {b : Bool} → i < length t → x ≡ get_or t i d → b ≡ wants acc x → b ≡ false → foldl turn acc (drop i t) ≡ foldl turn acc (drop (i + 1) t)
  scan_passes t i x d acc h g w e =
      turned t i d acc acc h (ap (λ (k : Bool). cond k (add acc x) acc) (sym e ∙ w) ∙ ap (turn acc) g)
