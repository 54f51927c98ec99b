-- Lists by number. Assumes nothing.
use mathlib.Core.Path.{◌≡◌, refl, sym, ◌∙◌, ap}
use mathlib.Core.List.{List, [], ◌∷◌}
use mathlib.Core.Logic.{◌⊎◌, inl, inr}
use mathlib.Core.Option.{Option, some}
use Prim.Native.Nat.{ℕ, zero, suc}
use native.Mathlib.Decide.{ℕ_discrete}
use lib.ListN.{get_elem?, set}
use Rattle.update.proofs.ZoneLaws.{some≢none}

pub set_same : {A : Type 0} (l : List A) (i : ℕ) (a b : A) → get_elem? l i ≡ some a → get_elem? (set l i b) i ≡ some b
set_same [] i a b e = absurd (some≢none (sym e))
set_same (x ∷ l) zero a b e = refl
set_same (x ∷ l) (suc i) a b e = set_same l i a b e

pub set_other : {A : Type 0} (l : List A) (i k : ℕ) (b : A) → ¬ (k ≡ i) → get_elem? (set l i b) k ≡ get_elem? l k
set_other [] i k b q = refl
set_other (x ∷ l) zero zero b q = absurd (q refl)
set_other (x ∷ l) zero (suc k) b q = refl
set_other (x ∷ l) (suc i) zero b q = refl
set_other (x ∷ l) (suc i) (suc k) b q = set_other l i k b (λ e. q (ap suc e))

-- What stands at k after something was set at i: what stood there, or what was set.
pub set_which : {A : Type 0} (l : List A) (i k : ℕ) (a b c : A) → get_elem? l i ≡ some a → get_elem? (set l i b) k ≡ some c
    → ((¬ (k ≡ i)) × (get_elem? l k ≡ some c)) ⊎ ((k ≡ i) × (b ≡ c))
set_which {A} l i k a b c g e = go (ℕ_discrete k i)
  where
    go : Dec (k ≡ i) → ((¬ (k ≡ i)) × (get_elem? l k ≡ some c)) ⊎ ((k ≡ i) × (b ≡ c))
    go (no n) = inl (n, sym (set_other l i k b n) ∙ e)
    go (yes p) =
        let t : ◌≡◌ {A = Option A} (some b) (some c) = sym (set_same l i a b g) ∙ ap (get_elem? (set l i b)) (sym p) ∙ e in
        let q : b ≡ c = cc in
        inr (p, q)
