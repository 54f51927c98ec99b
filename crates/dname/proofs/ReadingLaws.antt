-- The reader's steps: a label passed over, and what stands where none is. Assumes nothing.
use mathlib.Core.Path.{◌≡◌, refl, sym, ap, ◌∙◌}
use mathlib.Core.List.{List, [], ◌∷◌}
use Prim.Native.Nat.{ℕ, zero, suc, ◌-◌, ◌≤◌, ◌<◌}
use native.Mathlib.Omega.{arith}
use lib.ListN.{length, take, drop, length-drop}
use borrow.Author.Tests.{le-ltb}
use Rattle.dname.specs.Name.{labels_of}
use Rattle.dname.specs.Reading.{Passed, ending}
use Rattle.dname.proofs.NameLaws.{begun, skip, cut, part_rest}

-- ---- no whole label: the field is its ending

pub ends_nothing : (s : List ℕ) → length s ≡ 0 → labels_of 0 s ≡ ending s
unfolding labels_of ending
ends_nothing [] h = refl
ends_nothing (x ∷ s) h = absurd (omega arith)

-- the octet 0, or the length of a label that is too long
pub ends_octet : (n : ℕ) (s : List ℕ) → (0 < n → 63 < n) → labels_of 0 (n ∷ s) ≡ ending (n ∷ s)
unfolding labels_of ending
ends_octet zero [] h = refl
ends_octet zero (x ∷ s) h = refl
ends_octet (suc n) s h = let l : 63 ≤ n = omega (arith, h (omega arith)) in rw (labels_of, le-ltb n 63 l)

-- the length of a label that is cut off
pub ends_cut : (n : ℕ) (s : List ℕ) → 0 < n → n ≤ 63 → length s < n → labels_of 0 (n ∷ s) ≡ ending (n ∷ s)
unfolding ending
ends_cut zero s p h l = absurd (omega arith)
ends_cut (suc n) s p h l = begun n s (omega arith) ∙ cut (suc n) s l

-- ---- one whole label
pub passes_label : (n : ℕ) (s : List ℕ) → 0 < n → n ≤ 63 → n ≤ length s → Passed (n ∷ s) (drop n s)
passes_label zero s p h l = absurd (omega arith)
passes_label (suc n) s p h l = record {
  same = sym (begun n s (omega arith) ∙ skip (suc n) s l);
  fewer = omega (arith, length-drop (suc n) s);
}

-- labels behind labels
pub passed_more : {field rest end : List ℕ} → Passed field rest → Passed rest end → Passed field end
passed_more p q =
    let l = p.fewer in
    let m = q.fewer in
    record { same = q.same ∙ p.same; fewer = omega arith }

-- what a field holds, by what stands behind the labels passed over
pub reads_end : (field rest : List ℕ) → Passed field rest → labels_of 0 rest ≡ ending rest → labels_of 0 field ≡ ending rest
reads_end field rest p e = sym p.same ∙ e

-- the labels behind a place of the field
pub goes_on_lem : (s : List ℕ) (to : ℕ) → Passed s (drop to s) → labels_of 0 (take (length s - to) (drop to s)) ≡ labels_of 0 s
goes_on_lem s to p = ap (labels_of 0) (part_rest s to) ∙ p.same
