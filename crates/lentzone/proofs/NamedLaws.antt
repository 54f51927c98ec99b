-- The laws of a name at a place, and of the place of a name, looked for from the last place on. Assumes nothing.
use mathlib.Core.Path.{◌≡◌, sym, ◌∙◌, ap}
use mathlib.Core.Bool.{Bool, true, false, cond}
use mathlib.Core.List.{List, [], ◌∷◌}
use Rattle.std.specs.Prelude.{Option, Some, None}
use Prim.Native.Nat.{ℕ, zero, suc, ◌+◌, ◌-◌, ◌≤◌, ◌<◌}
use native.Mathlib.Nat.{zero-add, add-zero}
use native.Mathlib.Omega.{arith}
use lib.ListN.{length, get_or, take}
use lib.Seq.{take_all}
use borrow.Author.Tests.{eq-eqb}
use Rattle.zone.specs.Survey.{named, place_from}
use Rattle.zone.proofs.SurveyLaws.{blank}
use Rattle.lentzone.specs.Decode.{zone_in}
use Rattle.lentzone.specs.Inner.{place_in}
use Rattle.lentzone.proofs.DecodeLaws.{zone_length}

last_step : {A : Type 0} (p : A → Bool) (d : A) (l : List A) (i : ℕ) (otherwise : Option ℕ) (k : ℕ) → k < length l
    → place_from p i otherwise (take (suc k) l) ≡ cond (p (get_or l k d)) (Some (i + k)) (place_from p i otherwise (take k l))
unfolding place_from
last_step p d [] i otherwise k h = absurd (omega arith)
last_step p d (x ∷ l) i otherwise zero h = rw (add-zero i)
last_step p d (x ∷ l) i otherwise (suc k) h =
    let e : suc i + k ≡ i + suc k = omega arith in
    last_step p d l (suc i) (cond (p x) (Some i) otherwise) k (omega arith)
    ∙ ap (λ (n : ℕ). cond (p (get_or l k d)) (Some n) (place_from p (suc i) (cond (p x) (Some i) otherwise) (take k l))) e

module _ (z n : List ℕ) where
  -- the name stands at none of the places from i on
  pub record Left (i : ℕ) : Type 0 where
    pub below : i ≤ 64
    pub rest : place_in z n ≡ place_from (named n) 0 None (take i (zone_in z).entries)

  pub left_start : length z ≡ 23936 → Left 64
  unfolding place_in
  left_start l = record {
    below = omega arith;
    rest = rw (eq-eqb (length z) 23936 l) (ap (place_from (named n) 0 None) (sym (take_all 64 (zone_in z).entries (omega (arith, zone_length z)))));
  }

  module _ (i : ℕ) (h : 0 < i) (l : Left i) where
    step : place_in z n ≡ cond (named n (get_or (zone_in z).entries (i - 1) blank)) (Some (i - 1)) (place_from (named n) 0 None (take (i - 1) (zone_in z).entries))
    step =
        let b = l.below in
        let k : i - 1 < length (zone_in z).entries = omega (arith, zone_length z) in
        let m : i ≡ suc (i - 1) = omega arith in
        l.rest ∙ ap (λ (m : ℕ). place_from (named n) 0 None (take m (zone_in z).entries)) m ∙ last_step (named n) blank (zone_in z).entries 0 None (i - 1) k
        ∙ ap (λ (m : ℕ). cond (named n (get_or (zone_in z).entries (i - 1) blank)) (Some m) (place_from (named n) 0 None (take (i - 1) (zone_in z).entries))) (zero-add (i - 1))

    pub left_hit : named n (get_or (zone_in z).entries (i - 1) blank) ≡ true → place_in z n ≡ Some (i - 1)
    left_hit t = step ∙ rw t

    pub left_miss : named n (get_or (zone_in z).entries (i - 1) blank) ≡ false → Left (i - 1)
    left_miss t = record { below = let b = l.below in omega arith; rest = step ∙ rw t }

  pub left_end : (i : ℕ) → i ≤ 0 → Left i → place_in z n ≡ None
  unfolding place_from
  left_end i h l = let e : i ≡ 0 = omega arith in l.rest ∙ ap (λ (m : ℕ). place_from (named n) 0 None (take m (zone_in z).entries)) e
