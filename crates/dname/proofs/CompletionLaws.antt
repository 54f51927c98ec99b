-- A partial name followed by a full one is a full name. Assumes nothing.
use mathlib.Core.Path.{◌≡◌, refl, ap, ◌∙◌}
use mathlib.Core.Bool.{Bool, true, false, cond}
use mathlib.Core.List.{List, [], ◌∷◌, ◌++◌}
use Prim.Native.Nat.{ℕ, zero, suc, ◌+◌, ◌≤◌}
use native.Mathlib.Omega.{arith}
use lib.Dec.{ltb, leb}
use lib.ListN.{length, length-append}
use Rattle.dname.specs.Name.{labels_of, limited, shape_of}
use Rattle.dname.specs.declared.Shape.{Shape}
use Rattle.dname.specs.declared.Shape.TheVariants.{Empty, Full, Partial, Malformed}
use Rattle.dname.proofs.NameLaws.{limited_full}

-- shapes are told apart
pub not_partial : (s : Shape) → s ≡ Partial → s ≡ Malformed → ⊥
not_partial s p q = let z : ◌≡◌ {A = ℕ} 0 1 = cc in omega arith

-- the shape under the limits is the one that the labels make
pub limited_is : (t : Shape) (n : ℕ) (s : Shape) → (s ≡ Malformed → ⊥) → limited t n ≡ s → t ≡ s
unfolding limited
limited_is Full n s m e = go (leb n 255) e
  where
    go : (b : Bool) → cond b Full Malformed ≡ s → Full ≡ s
    go true q = q
    go false q = let z : s ≡ Malformed = cc in absurd (m z)
limited_is Partial n s m e = go (leb n 254) e
  where
    go : (b : Bool) → cond b Partial Malformed ≡ s → Partial ≡ s
    go true q = q
    go false q = let z : s ≡ Malformed = cc in absurd (m z)
limited_is Empty n s m e = let z : s ≡ Malformed = cc in absurd (m z)
limited_is Malformed n s m e = let z : s ≡ Malformed = cc in absurd (m z)

-- labels that end with the field are followed by what comes behind it
pub labels_append : (left : ℕ) (p q : List ℕ) → labels_of left p ≡ Partial → labels_of left (p ++ q) ≡ labels_of 0 q
unfolding labels_of
labels_append zero [] q h = refl
labels_append (suc left) [] q h = absurd (not_partial Malformed h refl)
labels_append (suc left) (x ∷ p) q h = labels_append left p q h
labels_append zero (zero ∷ []) q h = let z : ◌≡◌ {A = ℕ} 0 1 = cc in absurd (omega arith)
labels_append zero (zero ∷ x ∷ p) q h = absurd (not_partial Malformed h refl)
labels_append zero (suc n ∷ p) q h = go (ltb n 63) (labels_of (suc n) p) (labels_of (suc n) (p ++ q)) (labels_append (suc n) p q) h
  where
    go : (b : Bool) (x y : Shape) → (x ≡ Partial → y ≡ labels_of 0 q) → ◌≡◌ {A = Shape} (elim b [ true ↦ x | false ↦ Malformed ]) Partial → ◌≡◌ {A = Shape} (elim b [ true ↦ y | false ↦ Malformed ]) (labels_of 0 q)
    go true x y f e = f e
    go false x y f e = absurd (not_partial Malformed e refl)

full_labels : (q : List ℕ) → shape_of q ≡ Full → labels_of 0 q ≡ Full
unfolding shape_of
full_labels [] h = let z : ◌≡◌ {A = ℕ} 0 1 = cc in absurd (omega arith)
full_labels (zero ∷ q) h = let z : ◌≡◌ {A = ℕ} 0 1 = cc in absurd (omega arith)
full_labels (suc n ∷ q) h = limited_is (labels_of 0 (suc n ∷ q)) (length (suc n ∷ q)) Full (λ e. let z : ◌≡◌ {A = ℕ} 0 1 = cc in omega arith) h

pub completed_full : (p q : List ℕ) → shape_of p ≡ Partial → shape_of q ≡ Full → length p + length q ≤ 255 → shape_of (p ++ q) ≡ Full
unfolding shape_of
completed_full [] q h f l = let z : ◌≡◌ {A = ℕ} 0 1 = cc in absurd (omega arith)
completed_full (zero ∷ p) q h f l = absurd (not_partial Malformed h refl)
completed_full (suc n ∷ p) q h f l =
    let e : labels_of 0 (suc n ∷ p) ≡ Partial = limited_is (labels_of 0 (suc n ∷ p)) (length (suc n ∷ p)) Partial (λ m. not_partial Partial refl m) h in
    ap (λ (t : Shape). limited t (suc (length (p ++ q)))) (labels_append 0 (suc n ∷ p) q e ∙ full_labels q f)
    ∙ limited_full (suc (length (p ++ q))) (omega (arith, length-append p q))
