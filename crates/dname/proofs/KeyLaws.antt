-- The laws of folding: what it leaves of a name, and when two names are equal. Assumes nothing.
use mathlib.Core.Path.{◌≡◌, refl, sym, ◌∙◌, ap, ap₂}
use mathlib.Core.Bool.{Bool, true, false, ◌&&◌, and-false}
use mathlib.Core.List.{List, [], ◌∷◌, ◌++◌, map}
use mathlib.Core.Logic.{◌⊎◌, inl, inr}
use Prim.Native.Nat.{ℕ, zero, suc, ◌+◌, ◌≤◌, ◌<◌}
use native.Mathlib.Omega.{arith}
use lib.Dec.{eqb, ltb}
use Rattle.std.specs.List.{list_all, zip}
use lib.ListN.{length, get_or, length-map, get_or-map}
use borrow.Author.Tests.{le-leb, lt-leb, ltb-true, ltb-false}
use Rattle.octets.specs.Compare.{same_octets}
use Rattle.octets.proofs.CompareLaws.{same_true, same_lengths}
use Rattle.dname.specs.Name.{labels_of, limited, shape_of, lower, key, same_name}
use Rattle.dname.specs.Grammar.{Label}
use Rattle.dname.specs.Folding.{OneLetter, FoldsLabels}
use Rattle.dname.proofs.NameLaws.{begun, too_long, shape_limited, key_same_name}

-- ---- one octet

-- what an octet counts as, by where it stands
pub data Octet (x : ℕ) : Type 0 where
  below : x < 65 → lower x ≡ x → Octet x
  capital : 65 ≤ x → x ≤ 90 → lower x ≡ x + 32 → Octet x
  above : 90 < x → lower x ≡ x → Octet x

pub lower_below : (x : ℕ) → x < 65 → lower x ≡ x
lower_below x h = rw (lt-leb 65 x h)

pub lower_capital : (x : ℕ) → 65 ≤ x → x ≤ 90 → lower x ≡ x + 32
lower_capital x h k = rw (le-leb 65 x h, le-leb x 90 k)

pub lower_above : (x : ℕ) → 90 < x → lower x ≡ x
lower_above x h = rw (lt-leb x 90 h, and-false)

pub octet : (x : ℕ) → Octet x
octet x = go (ltb x 65) refl (ltb 90 x) refl
  where
    go : (b : Bool) → ltb x 65 ≡ b → (c : Bool) → ltb 90 x ≡ c → Octet x
    go true p c q = let h = ltb-true x 65 p in below h (lower_below x h)
    go false p true q = let h = ltb-true 90 x q in above h (lower_above x h)
    go false p false q =
        let h = ltb-false x 65 p in
        let k = ltb-false 90 x q in
        capital h k (lower_capital x h k)

lower_again : (x : ℕ) → lower (lower x) ≡ lower x
lower_again x = go (octet x) (octet (lower x))
  where
    go : Octet x → Octet (lower x) → lower (lower x) ≡ lower x
    go (below h p) o = ap lower p
    go (above h p) o = ap lower p
    go (capital h k p) (below i q) = q
    go (capital h k p) (above i q) = q
    go (capital h k p) (capital i j q) = absurd (omega arith)

-- the length of a label, and what is none
lower_length : (x : ℕ) → x < 64 → lower x ≡ x
lower_length x h = go (octet x)
  where
    go : Octet x → lower x ≡ x
    go (below k p) = p
    go (above k p) = p
    go (capital i j p) = absurd (omega arith)

lower_over : (x : ℕ) → 63 < x → 63 < lower x
lower_over x h = go (octet x)
  where
    go : Octet x → 63 < lower x
    go (below k p) = omega arith
    go (above k p) = omega arith
    go (capital i j p) = omega arith

letters : (x y : ℕ) → lower x ≡ lower y → (x ≡ y) ⊎ (OneLetter x y ⊎ OneLetter y x)
letters x y e = go (octet x) (octet y)
  where
    go : Octet x → Octet y → (x ≡ y) ⊎ (OneLetter x y ⊎ OneLetter y x)
    go (capital h k p) (capital i j q) = inl (omega arith)
    go (capital h k p) (below i q) = inr (inl (record { from = h; to = k; above = omega arith }))
    go (capital h k p) (above i q) = inr (inl (record { from = h; to = k; above = omega arith }))
    go (below h p) (capital i j q) = inr (inr (record { from = i; to = j; above = omega arith }))
    go (above h p) (capital i j q) = inr (inr (record { from = i; to = j; above = omega arith }))
    go (below h p) (below i q) = inl (omega arith)
    go (below h p) (above i q) = inl (omega arith)
    go (above h p) (below i q) = inl (omega arith)
    go (above h p) (above i q) = inl (omega arith)

-- ---- a name

pub key_length : (name : List ℕ) → length (key name) ≡ length name
unfolding key
key_length name = length-map name lower

pub key_at : (name : List ℕ) (i : ℕ) → get_or (key name) i 0 ≡ lower (get_or name i 0)
unfolding key
key_at name i = get_or-map lower name i 0

pub key_again : (name : List ℕ) → key (key name) ≡ key name
unfolding key
key_again [] = refl
key_again (x ∷ name) = ap₂ (λ (y : ℕ) (l : List ℕ). y ∷ l) (lower_again x) (key_again name)

key_append : (a b : List ℕ) → key (a ++ b) ≡ key a ++ key b
unfolding key
key_append [] b = refl
key_append (x ∷ a) b = ap (λ (l : List ℕ). lower x ∷ l) (key_append a b)

key_label : {n : ℕ} {octets : List ℕ} (rest : List ℕ) → Label n octets → key (n ∷ (octets ++ rest)) ≡ n ∷ (key octets ++ key rest)
unfolding key
key_label {n} {octets} rest l = let h = l.few in ap₂ (λ (y : ℕ) (l : List ℕ). y ∷ l) (lower_length n (omega arith)) (key_append octets rest)

-- the labels of a field are as long as before, whether one has begun or not
key_labels : (left : ℕ) (name : List ℕ) → labels_of left (key name) ≡ labels_of left name
unfolding labels_of key
key_labels (suc left) [] = refl
key_labels (suc left) (x ∷ rest) = key_labels left rest
key_labels zero [] = refl
key_labels zero (zero ∷ []) = refl
key_labels zero (zero ∷ x ∷ rest) = refl
key_labels zero (suc n ∷ rest) = go (ltb n 63) refl (key_labels (suc n) rest)
  where
    go : (b : Bool) → ltb n 63 ≡ b → labels_of (suc n) (map lower rest) ≡ labels_of (suc n) rest → labels_of 0 (lower (suc n) ∷ map lower rest) ≡ labels_of 0 (suc n ∷ rest)
    go true p ih =
        let h = ltb-true n 63 p in
        ap (λ (x : ℕ). labels_of 0 (x ∷ map lower rest)) (lower_length (suc n) (omega arith)) ∙ begun n (map lower rest) h ∙ ih ∙ sym (begun n rest h)
    go false p ih =
        let h = ltb-false n 63 p in
        too_long (lower (suc n) ∷ map lower rest) (omega arith) (lower_over (suc n) (omega arith)) ∙ sym (too_long (suc n ∷ rest) (omega arith) (omega arith))

-- an octet is 0 exactly where it counts as 0
key_shape : (name : List ℕ) → shape_of (key name) ≡ shape_of name
key_shape [] = unfold key in refl
key_shape (zero ∷ rest) = unfold key shape_of in refl
key_shape (suc n ∷ rest) =
    shape_limited (key (suc n ∷ rest)) (omega (arith, key_length (suc n ∷ rest))) (λ e. nonzero (octet (suc n)) (sym (key_at (suc n ∷ rest) 0) ∙ e))
    ∙ ap₂ limited (key_labels 0 (suc n ∷ rest)) (key_length (suc n ∷ rest)) ∙ sym (shape_limited (suc n ∷ rest) (omega arith) (λ e. omega arith))
  where
    nonzero : Octet (suc n) → lower (suc n) ≡ 0 → ⊥
    nonzero (below h p) e = omega arith
    nonzero (capital h k p) e = omega arith
    nonzero (above h p) e = omega arith

-- Theorem: folding folds just the labels.
pub folds_labels : FoldsLabels
folds_labels = record { shape = key_shape; size = key_length; labels = key_label; again = key_again; letters = letters }

-- ---- two names compared octet by octet

pub same_folded_lengths : (a b : List ℕ) → (length a ≡ length b → ⊥) → same_name a b ≡ false
unfolding same_name
same_folded_lengths a b h = same_lengths (key a) (key b) (λ e. h (sym (key_length a) ∙ e ∙ key_length b))

-- names of one length are equal where each two octets count as the same
pub same_pairs : (a b : List ℕ) → length a ≡ length b → list_all (λ p. eqb (lower p.0) (lower p.1)) (zip a b) ≡ same_name a b
unfolding same_name same_octets key
same_pairs [] [] h = refl
same_pairs [] (y ∷ b) h = absurd (omega arith)
same_pairs (x ∷ a) [] h = absurd (omega arith)
same_pairs (x ∷ a) (y ∷ b) h = ap (λ (t : Bool). eqb (lower x) (lower y) && t) (same_pairs a b (omega arith))

-- the same octets are the same name
pub same_octets_name : (a b : List ℕ) → same_octets a b ≡ true → same_name a b ≡ true
same_octets_name a b h = key_same_name a b (ap key (same_true a b h))
