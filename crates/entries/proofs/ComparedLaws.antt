-- The laws of a list in form that is read place by place: each entry against those behind it, one at a time. Assumes nothing.
use mathlib.Core.Path.{◌≡◌, refl, ap, ◌∙◌}
use mathlib.Core.Bool.{Bool, true, false, not, ◌&&◌, ◌||◌, and-false}
use mathlib.Core.List.{List, [], ◌∷◌}
use Prim.Native.Nat.{ℕ, suc, ◌+◌, ◌-◌, ◌≤◌, ◌<◌}
use native.Mathlib.Numerals.{add-one}
use native.Mathlib.Omega.{arith}
use lib.ListN.{length, drop, get_or, drop_of_length-le}
use lib.Seq.{drop-cons, drop-drop}
use Rattle.entries.specs.Entries.{Kind, is_about, is_held, one_of, each, distinct, is_orderly}
use Rattle.entries.specs.Places.{Holder, held_in}
use Rattle.entries.proofs.PackLaws.{held_at}
use Rattle.entries.proofs.FormLaws.{is_timed}

module _ {K E : Type 0} (kind : Kind K E) where
  -- a list is orderly, where the first entry has been compared with the first m of those behind it
  abbrev pub compared : ℕ → List E → Bool
  compared m [] = true
  compared m (e ∷ l) = (not (is_held kind (kind.about e) (drop m l)) && distinct kind l) && (is_timed kind e && each (is_timed kind) l)

  pub compared_none : (l : List E) → is_orderly kind l ≡ compared 0 l
  unfolding distinct each
  compared_none [] = refl
  compared_none (e ∷ l) = refl

  module _ (z : E) (l : List E) (i k : ℕ) (h : i < length l) (o : i < k) where
    -- the entry whose turn it is
    abbrev first : E
    first = get_or l i z

    cut : compared (k - (i + 1)) (drop i l)
        ≡ ((not (is_held kind (kind.about first) (drop k l)) && distinct kind (drop (suc i) l)) && (is_timed kind first && each (is_timed kind) (drop (suc i) l)))
    cut =
        let s : suc i + (k - (i + 1)) ≡ k = omega arith in
        let d : drop (k - (i + 1)) (drop (suc i) l) ≡ drop k l = drop-drop (k - (i + 1)) (suc i) l ∙ ap (λ (n : ℕ). drop n l) s in
        ap (compared (k - (i + 1))) (drop-cons l i z h)
        ∙ ap (λ (r : List E). (not (is_held kind (kind.about first) r) && distinct kind (drop (suc i) l)) && (is_timed kind first && each (is_timed kind) (drop (suc i) l))) d

    module _ (w : k < length l) where
      held_next : is_held kind (kind.about first) (drop k l) ≡ (is_about kind (kind.about first) (get_or l k z) || is_held kind (kind.about first) (drop (suc k) l))
      unfolding one_of
      held_next = ap (is_held kind (kind.about first)) (drop-cons l k z w)

      pub twice : is_about kind (kind.about first) (get_or l k z) ≡ true → compared (k - (i + 1)) (drop i l) ≡ false
      twice t = rw (cut, held_next, t)

    pub no_moments : length l ≤ k → is_timed kind first ≡ false → compared (k - (i + 1)) (drop i l) ≡ false
    no_moments w t = rw (cut, t, and-false)

    pub once : length l ≤ k → is_timed kind first ≡ true → compared (k - (i + 1)) (drop i l) ≡ compared (i + 1 + 1 - (i + 1 + 1)) (drop (i + 1) l)
    unfolding one_of
    once w t =
        let n : i + 1 + 1 - (i + 1 + 1) ≡ 0 = omega arith in
        rw (cut, drop_of_length-le l {i = k} w, t, n, add-one i) (compared_none (drop (suc i) l))

  pub other : (z : E) (l : List E) (i k : ℕ) (h : i < length l) (o : i < k) (w : k < length l) → is_about kind (kind.about (get_or l i z)) (get_or l k z) ≡ false
      → compared (k - (i + 1)) (drop i l) ≡ compared (k + 1 - (i + 1)) (drop i l)
  other z l i k h o w t = rw (cut z l i k h o, held_next z l i k h o w, t, cut z l i (k + 1) h (omega arith), add-one k)

  pub compared_end : (l : List E) (i m : ℕ) → length l ≤ i → compared m (drop i l) ≡ true
  compared_end l i m h = rw (drop_of_length-le l {i = i} h)

  -- what a test said of entries that the code read from their places
  module _ {R L : Type 0} (h : Holder E R L) (l : L) (n : h.count l ≤ length (h.entries l)) where
    pub about_held : (j k : ℕ) (c d : E) (t : Bool) → is_about kind (kind.about (get_or (h.entries l) j c)) (get_or (h.entries l) k d) ≡ t
        → j < h.count l → k < h.count l → is_about kind (kind.about (get_or (held_in h l) j h.blank)) (get_or (held_in h l) k h.blank) ≡ t
    about_held j k c d t e p q = rw (← held_at h l j c p n, ← held_at h l k d q n) e

    pub timed_held : (k : ℕ) (d : E) (t : Bool) → is_timed kind (get_or (h.entries l) k d) ≡ t → k < h.count l → is_timed kind (get_or (held_in h l) k h.blank) ≡ t
    timed_held k d t e q = rw (← held_at h l k d q n) e
