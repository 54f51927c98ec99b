-- The laws of comparing strings of octets. Assumes nothing.
use mathlib.Core.Path.{◌≡◌, refl, ap, ◌∙◌}
use mathlib.Core.Bool.{Bool, true, false, ◌&&◌, and-false}
use mathlib.Core.List.{List, [], ◌∷◌}
use native.Mathlib.Omega.{arith}
use Prim.Native.Nat.{ℕ, suc, ◌+◌, ◌<◌, ◌≤◌}
use native.Mathlib.Numerals.{add-one}
use lib.Dec.{eqb}
use lib.ListN.{length, get_or, drop, drop_of_length-le}
use lib.Seq.{drop-cons}
use borrow.Author.Tests.{eq-eqb, ne_eqb, eqb-true}
use Rattle.std.specs.List.{fold, zip}
use Rattle.octets.specs.Compare.{same_octets}

pub same_self : (a : List ℕ) → same_octets a a ≡ true
unfolding same_octets
same_self [] = refl
same_self (x ∷ xs) = rw (eq-eqb x x refl) (same_self xs)

pub same_true : (a b : List ℕ) → same_octets a b ≡ true → a ≡ b
unfolding same_octets
same_true [] [] e = refl
same_true [] (y ∷ ys) e = cc
same_true (x ∷ xs) [] e = cc
same_true (x ∷ xs) (y ∷ ys) e = go (eqb x y) refl e (same_true xs ys)
  where
    go : (b : Bool) → eqb x y ≡ b → (b && same_octets xs ys) ≡ true → (same_octets xs ys ≡ true → xs ≡ ys) → x ∷ xs ≡ y ∷ ys
    go true q r ih = let h : x ≡ y = eqb-true x y q in let t : xs ≡ ys = ih r in cc
    go false q r ih = cc

-- what is told of a string so far stays in front
fold_pairs : (a b : List ℕ) (t : Bool) → fold (λ same p. same && eqb p.0 p.1) t (zip a b) ≡ (t && fold (λ same p. same && eqb p.0 p.1) true (zip a b))
fold_pairs a b true = refl
fold_pairs [] b false = refl
fold_pairs (x ∷ a) [] false = refl
fold_pairs (x ∷ a) (y ∷ b) false = fold_pairs a b false

-- strings of one length hold the same octets where each two are equal
pub same_pairs : (a b : List ℕ) → length a ≡ length b → fold (λ same p. same && eqb p.0 p.1) true (zip a b) ≡ same_octets a b
unfolding same_octets
same_pairs [] [] h = refl
same_pairs [] (y ∷ b) h = absurd (omega arith)
same_pairs (x ∷ a) [] h = absurd (omega arith)
same_pairs (x ∷ a) (y ∷ b) h = fold_pairs a b (eqb x y) ∙ ap (λ (t : Bool). eqb x y && t) (same_pairs a b (omega arith))

-- strings of different lengths are not the same
pub same_lengths : (a b : List ℕ) → (length a ≡ length b → ⊥) → same_octets a b ≡ false
unfolding same_octets
same_lengths [] [] h = absurd (h refl)
same_lengths [] (y ∷ ys) h = refl
same_lengths (x ∷ xs) [] h = refl
same_lengths (x ∷ xs) (y ∷ ys) h = rw (same_lengths xs ys (λ e. h (ap suc e)), and-false)

-- any function of the octets tells strings apart: where its values differ, the strings do
pub same_differ : {A : Type 0} (f : List ℕ → A) (a b : List ℕ) → (f a ≡ f b → ⊥) → same_octets a b ≡ false
same_differ f a b h = go (same_octets a b) refl
  where
    go : (t : Bool) → same_octets a b ≡ t → t ≡ false
    go true e = absurd (h (ap f (same_true a b e)))
    go false e = refl

-- a place where both go on: the octets there are equal, and the rest of the two strings is the same
pub same_step : (a b : List ℕ) (i : ℕ) → i < length a → i < length b → same_octets (drop i a) (drop i b) ≡ (eqb (get_or a i 0) (get_or b i 0) && same_octets (drop (i + 1) a) (drop (i + 1) b))
unfolding same_octets
same_step a b i h k = rw (add-one, drop-cons a i 0 h, drop-cons b i 0 k)

module _ (a b : List ℕ) (i : ℕ) (h : i < length a) (k : i < length b) where
  pub same_unlike : (get_or a i 0 ≡ get_or b i 0 → ⊥) → same_octets (drop i a) (drop i b) ≡ false
  same_unlike n = rw (same_step a b i h k, ne_eqb _ _ n)

  pub same_alike : get_or a i 0 ≡ get_or b i 0 → same_octets (drop i a) (drop i b) ≡ same_octets (drop (i + 1) a) (drop (i + 1) b)
  same_alike e = rw (same_step a b i h k, eq-eqb _ _ e)

pub same_end : (a b : List ℕ) (i : ℕ) → length a ≤ i → length b ≤ i → same_octets (drop i a) (drop i b) ≡ true
unfolding same_octets
same_end a b i h k = rw (drop_of_length-le a h, drop_of_length-le b k)
