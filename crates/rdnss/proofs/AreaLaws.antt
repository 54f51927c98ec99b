-- The laws of the walk over an option area. Assumes nothing.
use mathlib.Core.Path.{◌≡◌, refl, ap, sym, ◌∙◌}
use mathlib.Core.Bool.{Bool, true, false, ◌&&◌, and-false, false≢true}
use mathlib.Core.List.{List, [], ◌∷◌}
use Prim.Native.Nat.{ℕ, zero, suc, ◌+◌, ◌-◌, ◌*◌, ◌/◌, ◌%◌, ◌≤◌, ◌<◌, min}
use native.Mathlib.Omega.{arith}
use lib.Dec.{leb, eqb}
use borrow.Author.Tests.{leb-true, leb-false, le-leb, lt-leb, eq-eqb, ne_eqb}
use lib.ListN.{length, take, drop, length-drop}
use native.Mathlib.Nat.{div-mul-le_self}
use lib.Seq.{get_or-take, length-take-le}
use Rattle.octets.proofs.BoolLaws.{and_left, and_right}
use Rattle.rdnss.specs.Area.{is_whole, options, type_of, length_of, is_acting}
use Rattle.rdnss.specs.Places.{Splits, Ends}

-- the octets still to come, skipped at once
pub whole_skip : (k : ℕ) (s : List ℕ) → k ≤ length s → is_whole k s ≡ is_whole 0 (drop k s)
unfolding is_whole
whole_skip zero s h = refl
whole_skip (suc k) [] h = absurd (omega arith)
whole_skip (suc k) (x ∷ s) h = whole_skip k s (omega arith)

pub whole_short : (k : ℕ) (s : List ℕ) → length s < k → is_whole k s ≡ false
unfolding is_whole
whole_short zero s h = absurd (omega arith)
whole_short (suc k) [] h = refl
whole_short (suc k) (x ∷ s) h = whole_short k s (omega arith)

pub options_skip : (k : ℕ) (s : List ℕ) → k ≤ length s → options k s ≡ options 0 (drop k s)
unfolding options
options_skip zero s h = refl
options_skip (suc k) [] h = absurd (omega arith)
options_skip (suc k) (x ∷ s) h = options_skip k s (omega arith)

-- at the start of an option of n octets
pub whole_step : (w : List ℕ) (n : ℕ) → n ≡ length_of w * 8 → 0 < n → n ≤ length w → is_whole 0 w ≡ is_whole 0 (drop n w)
unfolding is_whole
whole_step [] n e z h = absurd (omega arith)
whole_step (t ∷ []) n e z h = absurd (omega arith)
whole_step (t ∷ zero ∷ s) n e z h = absurd (omega arith)
whole_step (t ∷ suc m ∷ s) n e z h =
    let q : suc (suc (6 + 8 * m)) ≡ n = omega arith in
    whole_skip (6 + 8 * m) s (omega arith) ∙ ap (λ (k : ℕ). is_whole 0 (drop k (t ∷ suc m ∷ s))) q

pub options_step : (w : List ℕ) (n : ℕ) → n ≡ length_of w * 8 → 0 < n → n ≤ length w → options 0 w ≡ take n w ∷ options 0 (drop n w)
unfolding options
options_step [] n e z h = absurd (omega arith)
options_step (t ∷ []) n e z h = absurd (omega arith)
options_step (t ∷ zero ∷ s) n e z h = absurd (omega arith)
options_step (t ∷ suc m ∷ s) n e z h =
    let q : suc (suc (6 + 8 * m)) ≡ n = omega arith in
    ap (λ (r : List (List ℕ)). (t ∷ suc m ∷ take (6 + 8 * m) s) ∷ r) (options_skip (6 + 8 * m) s (omega arith))
    ∙ ap (λ (k : ℕ). take k (t ∷ suc m ∷ s) ∷ options 0 (drop k (t ∷ suc m ∷ s))) q

pub whole_zero : (w : List ℕ) → 0 < length w → length_of w * 8 ≡ 0 → is_whole 0 w ≡ false
unfolding is_whole
whole_zero [] z e = absurd (omega arith)
whole_zero (t ∷ []) z e = refl
whole_zero (t ∷ zero ∷ s) z e = refl
whole_zero (t ∷ suc m ∷ s) z e = absurd (omega arith)

pub whole_long : (w : List ℕ) → 0 < length w → length w < length_of w * 8 → is_whole 0 w ≡ false
unfolding is_whole
whole_long [] z h = absurd (omega arith)
whole_long (t ∷ []) z h = refl
whole_long (t ∷ zero ∷ s) z h = refl
whole_long (t ∷ suc m ∷ s) z h = whole_short (6 + 8 * m) s (omega arith)

-- an option of an area that is whole: it has a Length, and all its octets
pub whole_first : (w : List ℕ) → 0 < length w → is_whole 0 w ≡ true → (0 < length_of w * 8) × (length_of w * 8 ≤ length w)
unfolding is_whole
whole_first [] z h = absurd (omega arith)
whole_first (t ∷ []) z h = absurd (false≢true h)
whole_first (t ∷ zero ∷ s) z h = absurd (false≢true h)
whole_first (t ∷ suc m ∷ s) z h = (omega arith, within (leb (6 + 8 * m) (length s)) refl)
  where
    within : (b : Bool) → leb (6 + 8 * m) (length s) ≡ b → suc m * 8 ≤ length (t ∷ suc m ∷ s)
    within true q = omega (arith, leb-true (6 + 8 * m) (length s) q)
    within false q = absurd (false≢true (sym (whole_short (6 + 8 * m) s (leb-false (6 + 8 * m) (length s) q)) ∙ h))

pub whole_end : is_whole 0 [] ≡ true
unfolding is_whole
whole_end = refl

pub options_end : options 0 [] ≡ []
unfolding options
options_end = refl

-- which options act
module _ (v : List ℕ) where
  pub not_type : (type_of v ≡ 25 → ⊥) → is_acting v ≡ false
  unfolding is_acting
  not_type h = rw (ne_eqb (type_of v) 25 h)

  pub too_short : length_of v < 3 → is_acting v ≡ false
  unfolding is_acting
  too_short h = rw (lt-leb 3 (length_of v) h, and-false)

  pub odd_acts : type_of v ≡ 25 → 3 ≤ length_of v → is_acting v ≡ eqb (length_of v % 2) 1
  unfolding is_acting
  odd_acts t h = rw (eq-eqb (type_of v) 25 t, le-leb 3 (length_of v) h)

  pub acting_length : is_acting v ≡ true → 3 ≤ length_of v
  unfolding is_acting
  acting_length h = leb-true 3 (length_of v) (and_right (eqb (type_of v) 25) (leb 3 (length_of v)) (and_left (eqb (type_of v) 25 && leb 3 (length_of v)) (eqb (length_of v % 2) 1) h))

-- the addresses that count are there
pub count_fits_lem : (u : ℕ) → 3 ≤ u → 8 + 16 * min ((u - 1) / 2) 3 ≤ 8 * u
count_fits_lem u h = omega (arith, div-mul-le_self (u - 1) 2)

-- what an area begins with, by its Length
module _ (w : List ℕ) where
  no_option : 0 < length w → is_whole 0 w ≡ false → Ends w
  no_option z f = record { whole = f ∙ sym (ne_eqb (length w) 0 (λ e. absurd (omega arith))); none = λ t. absurd (false≢true (sym f ∙ t)) }

  pub ends_zero : 0 < length w → length_of w * 8 ≡ 0 → Ends w
  ends_zero z h = no_option z (whole_zero w z h)

  pub ends_long : length w < length_of w * 8 → 0 < length w → Ends w
  ends_long h z = no_option z (whole_long w z h)

  pub splits : (n : ℕ) → n ≡ length_of w * 8 → 0 < n → n ≤ length w → Splits w (take n w) (drop n w)
  splits n e z h =
      let k = length-take-le n w h in
      let g = get_or-take n w 1 0 (omega arith) in
      record {
        whole = whole_step w n e z h;
        options = options_step w n e z h;
        shorter = omega (arith, length-drop n w);
        fits = record { whole = omega (arith, k, g, e) };
      }

pub ends_short : (w : List ℕ) → length w < 2 → Ends w
ends_short [] h = record { whole = whole_end; none = λ _. options_end }
ends_short (t ∷ []) h = ends_zero (t ∷ []) (omega arith) refl
ends_short (t ∷ u ∷ s) h = absurd (omega arith)

pub positive : (n : ℕ) → (n ≡ 0 → ⊥) → 0 < n
positive zero h = absurd (h refl)
positive (suc n) h = omega arith
