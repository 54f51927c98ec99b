-- The definition by which fields are read says what the grammar says. Assumes nothing.
use mathlib.Core.Path.{◌≡◌, refl, sym, ap, subst, ◌∙◌}
use mathlib.Core.Bool.{Bool, true, false, cond}
use mathlib.Core.List.{List, [], ◌∷◌, ◌++◌}
use Prim.Native.Nat.{ℕ, zero, suc, ◌≤◌, ◌<◌}
use native.Mathlib.Omega.{arith}
use lib.Dec.{ltb, leb}
use lib.ListN.{length, take, drop, length-drop, length-append, take-append-drop}
use lib.Seq.{drop_at, length-take-le}
use borrow.Author.Tests.{ltb-true, leb-true, leb-false}
use Rattle.dname.specs.Name.{labels_of, limited, shape_of}
use Rattle.dname.specs.Grammar.{Label, Reads, root, field, label, FullName, PartialName}
use Rattle.dname.specs.declared.Shape.{Shape}
use Rattle.dname.specs.declared.Shape.TheVariants.{Full, Partial, Malformed}
use Rattle.dname.proofs.NameLaws.{begun, skip, cut, limited_full, limited_partial}
use Rattle.dname.proofs.CompletionLaws.{limited_is}

-- a label at the front is passed over
one_more_lem : (n : ℕ) (octets rest : List ℕ) → Label n octets → labels_of 0 (n ∷ (octets ++ rest)) ≡ labels_of 0 rest
one_more_lem zero octets rest l = absurd (omega (arith, l.some))
one_more_lem (suc n) octets rest l =
    begun n (octets ++ rest) (omega (arith, l.few))
    ∙ skip (suc n) (octets ++ rest) (omega (arith, l.size, length-append octets rest))
    ∙ ap (labels_of 0) (drop_at octets rest (suc n) l.size)

-- what the grammar reads, the definition reads
pub reads_labels : {s : List ℕ} {t : Shape} → Reads s t → labels_of 0 s ≡ t
unfolding labels_of
reads_labels root = refl
reads_labels field = refl
reads_labels (label l r) = one_more_lem _ _ _ l ∙ reads_labels r

-- a label of 1 to 63 octets, all there or cut off
module _ (n : ℕ) (s : List ℕ) (t : Shape) (few : n < 63) (m : t ≡ Malformed → ⊥) (e : labels_of (suc n) s ≡ t) where
  label_reads : (labels_of 0 (drop (suc n) s) ≡ t → Reads (drop (suc n) s) t) → Reads (suc n ∷ s) t
  label_reads ih = go (leb (suc n) (length s)) refl
    where
      go : (b : Bool) → leb (suc n) (length s) ≡ b → Reads (suc n ∷ s) t
      go true q =
          let h : suc n ≤ length s = leb-true (suc n) (length s) q in
          let r : Reads (drop (suc n) s) t = ih (sym (skip (suc n) s h) ∙ e) in
          let l : Label (suc n) (take (suc n) s) = record { some = omega arith; few = omega arith; size = length-take-le (suc n) s h } in
          subst (λ (x : List ℕ). Reads (suc n ∷ x) t) (take-append-drop (suc n) s) (label l r)
      go false q = absurd (m (sym e ∙ cut (suc n) s (leb-false (suc n) (length s) q)))

-- and the other way, for a shape that is not malformed, if shorter names are read so
reads_step : (s : List ℕ) (t : Shape) → (t ≡ Malformed → ⊥) → ((r : List ℕ) → length r < length s → labels_of 0 r ≡ t → Reads r t) → labels_of 0 s ≡ t → Reads s t
unfolding labels_of
reads_step [] t m ih e = subst (Reads []) e field
reads_step (zero ∷ []) t m ih e = subst (Reads (0 ∷ [])) e root
reads_step (zero ∷ x ∷ s) t m ih e = absurd (m (sym e))
reads_step (suc n ∷ s) t m ih e = go (ltb n 63) refl e
  where
    go : (b : Bool) → ltb n 63 ≡ b → ◌≡◌ {A = Shape} (elim b [ true ↦ labels_of (suc n) s | false ↦ Malformed ]) t → Reads (suc n ∷ s) t
    go true q f = label_reads n s t (ltb-true n 63 q) m f (ih (drop (suc n) s) (omega (arith, length-drop (suc n) s)))
    go false q f = absurd (m (sym f))

labels_reads : (k : ℕ) (s : List ℕ) (t : Shape) → length s < k → (t ≡ Malformed → ⊥) → labels_of 0 s ≡ t → Reads s t
labels_reads zero s t h m e = absurd (omega arith)
labels_reads (suc k) s t h m e = reads_step s t m (λ r l f. labels_reads k r t (omega arith) m f) e

pub read_back : (s : List ℕ) (t : Shape) → (t ≡ Malformed → ⊥) → labels_of 0 s ≡ t → Reads s t
read_back s t m e = labels_reads (suc (length s)) s t (omega arith) m e

-- a length under its limit
under : (n limit : ℕ) (s : Shape) → (s ≡ Malformed → ⊥) → cond (leb n limit) s Malformed ≡ s → n ≤ limit
under n limit s m e = go (leb n limit) refl e
  where
    go : (b : Bool) → leb n limit ≡ b → cond b s Malformed ≡ s → n ≤ limit
    go true q f = leb-true n limit q
    go false q f = absurd (m (sym f))

full_good : Full ≡ Malformed → ⊥
full_good h = let z : ◌≡◌ {A = ℕ} 0 1 = cc in omega arith

partial_good : Partial ≡ Malformed → ⊥
partial_good h = let z : ◌≡◌ {A = ℕ} 0 1 = cc in omega arith

-- a length octet alone is no label
lone : (n : ℕ) → labels_of 0 (suc n ∷ []) ≡ Malformed
unfolding labels_of
lone n = go (ltb n 63)
  where
    go : (b : Bool) → ◌≡◌ {A = Shape} (elim b [ true ↦ Malformed | false ↦ Malformed ]) Malformed
    go true = refl
    go false = refl

-- A field holds a full name exactly when the grammar says so.
pub full_name : (s : List ℕ) → FullName s → shape_of s ≡ Full
unfolding shape_of labels_of
full_name [] f = absurd (omega (arith, f.labelled))
full_name (zero ∷ []) f = absurd (omega (arith, f.labelled))
full_name (zero ∷ x ∷ s) f = reads_labels f.reads
full_name (suc n ∷ s) f = ap (λ (t : Shape). limited t (suc (length s))) (reads_labels f.reads) ∙ limited_full (suc (length s)) f.short

pub name_full : (s : List ℕ) → shape_of s ≡ Full → FullName s
unfolding shape_of limited
name_full [] e = let z : ◌≡◌ {A = ℕ} 0 1 = cc in absurd (omega arith)
name_full (zero ∷ s) e = absurd (full_good (sym e))
name_full (suc n ∷ s) e =
    let t : labels_of 0 (suc n ∷ s) ≡ Full = limited_is (labels_of 0 (suc n ∷ s)) (suc (length s)) Full full_good e in
    let l : suc (length s) ≤ 255 = under (suc (length s)) 255 Full full_good (ap (λ (x : Shape). limited x (suc (length s))) (sym t) ∙ e) in
    let r : Reads (suc n ∷ s) Full = read_back (suc n ∷ s) Full full_good t in
    record { reads = r; labelled = longer s r; short = l }
  where
    longer : (q : List ℕ) → Reads (suc n ∷ q) Full → 1 < length (suc n ∷ q)
    longer [] r = absurd (full_good (sym (reads_labels r) ∙ lone n))
    longer (x ∷ q) r = omega arith

-- And a partial name likewise.
pub partial_name : (s : List ℕ) → PartialName s → shape_of s ≡ Partial
unfolding shape_of labels_of
partial_name [] f = absurd (omega (arith, f.labelled))
partial_name (zero ∷ []) f = let e : Full ≡ Partial = reads_labels f.reads in let z : ◌≡◌ {A = ℕ} 0 1 = cc in absurd (omega arith)
partial_name (zero ∷ x ∷ s) f = reads_labels f.reads
partial_name (suc n ∷ s) f = ap (λ (t : Shape). limited t (suc (length s))) (reads_labels f.reads) ∙ limited_partial (suc (length s)) f.short

pub name_partial : (s : List ℕ) → shape_of s ≡ Partial → PartialName s
unfolding shape_of limited
name_partial [] e = let z : ◌≡◌ {A = ℕ} 0 1 = cc in absurd (omega arith)
name_partial (zero ∷ s) e = absurd (partial_good (sym e))
name_partial (suc n ∷ s) e =
    let t : labels_of 0 (suc n ∷ s) ≡ Partial = limited_is (labels_of 0 (suc n ∷ s)) (suc (length s)) Partial partial_good e in
    let l : suc (length s) ≤ 254 = under (suc (length s)) 254 Partial partial_good (ap (λ (x : Shape). limited x (suc (length s))) (sym t) ∙ e) in
    record { reads = read_back (suc n ∷ s) Partial partial_good t; labelled = omega arith; short = l }
