-- The laws of numbers and octets as text. Assumes nothing.
use mathlib.Core.Path.{◌≡◌, refl, sym, ap, ◌∙◌}
use mathlib.Core.Bool.{Bool, true, false, cond}
use mathlib.Core.List.{List, [], ◌∷◌, ◌++◌, foldl}
use Prim.Native.Nat.{ℕ, zero, suc, ◌+◌, ◌*◌, ◌/◌, ◌%◌, ◌^◌, ◌≤◌, ◌<◌}
use native.Mathlib.Omega.{arith}
use native.Mathlib.Nat.{pow-suc}
use lib.Dec.{ltb}
use lib.ListN.{length, get_or, length-append}
use borrow.Author.Tests.{lt-ltb, le-ltb, ltb-true, ltb-false}
use Rattle.text.specs.Text.{digit, decimal_up_to, decimal, hex}
use Rattle.text.specs.Claims.{DecimalRule, digit_of, number_of, octets_of, DecimalReadsBack, DecimalIsShort, NoZeroInFront, TwoAnOctet, HexReadsBack}

-- ---- the rule of decimal digits

up_to_one : (m n : ℕ) → n < 10 → decimal_up_to m n ≡ digit n ∷ []
unfolding decimal_up_to
up_to_one zero n h = refl
up_to_one (suc m) n h = rw (decimal_up_to, lt-ltb n 10 h)

up_to_more : (m n : ℕ) → 10 ≤ n → decimal_up_to (suc m) n ≡ decimal_up_to m (n / 10) ++ (digit (n % 10) ∷ [])
unfolding decimal_up_to
up_to_more m n h = rw (decimal_up_to, le-ltb n 10 h)

-- a bound that is high enough does not matter
enough : (m k n : ℕ) → n ≤ m → n ≤ k → decimal_up_to m n ≡ decimal_up_to k n
enough zero k n h g = up_to_one 0 n (omega arith) ∙ sym (up_to_one k n (omega arith))
enough (suc m) zero n h g = up_to_one (suc m) n (omega arith) ∙ sym (up_to_one 0 n (omega arith))
enough (suc m) (suc k) n h g = go (ltb n 10) refl (λ l. enough m k (n / 10) (omega arith) (omega arith))
  where
    go : (b : Bool) → ltb n 10 ≡ b → (10 ≤ n → decimal_up_to m (n / 10) ≡ decimal_up_to k (n / 10)) → decimal_up_to (suc m) n ≡ decimal_up_to (suc k) n
    go true q ih = let l : n < 10 = ltb-true n 10 q in up_to_one (suc m) n l ∙ sym (up_to_one (suc k) n l)
    go false q ih = let l : 10 ≤ n = ltb-false n 10 q in up_to_more m n l ∙ ap (λ (s : List ℕ). s ++ (digit (n % 10) ∷ [])) (ih l) ∙ sym (up_to_more k n l)

pub decimal_one : (n : ℕ) → n < 10 → decimal n ≡ digit n ∷ []
unfolding decimal
decimal_one n h = up_to_one n n h

pub decimal_more : (n : ℕ) → 10 ≤ n → decimal n ≡ decimal (n / 10) ++ (digit (n % 10) ∷ [])
unfolding decimal
decimal_more zero h = absurd (omega arith)
decimal_more (suc m) h = up_to_more m (suc m) h ∙ ap (λ (s : List ℕ). s ++ (digit (suc m % 10) ∷ [])) (enough m (suc m / 10) (suc m / 10) (omega arith) (omega arith))

pub decimal_rule : DecimalRule
decimal_rule = record { one = decimal_one; more = decimal_more }

-- what holds of a number below ten, and of any other if it holds of its tenth, holds of all
module _ (P : ℕ → Type 0) (one : (n : ℕ) → n < 10 → P n) (more : (n : ℕ) → 10 ≤ n → P (n / 10) → P n) where
  tenths_step : (n : ℕ) → (10 ≤ n → P (n / 10)) → P n
  tenths_step n ih = go (ltb n 10) refl
    where
      go : (b : Bool) → ltb n 10 ≡ b → P n
      go true q = one n (ltb-true n 10 q)
      go false q = let l : 10 ≤ n = ltb-false n 10 q in more n l (ih l)

  tenths_below : (m n : ℕ) → n < m → P n
  tenths_below zero n h = absurd (omega arith)
  tenths_below (suc m) n h = tenths_step n (λ l. tenths_below m (n / 10) (omega arith))

  pub by_tenths : (n : ℕ) → P n
  by_tenths n = tenths_below (suc n) n (omega arith)

-- ---- read back

digit_back : (d : ℕ) → d < 16 → digit_of (digit d) ≡ d
unfolding digit
digit_back d h = go (ltb d 10) refl
  where
    go : (b : Bool) → ltb d 10 ≡ b → digit_of (cond b (48 + d) (87 + d)) ≡ d
    go true q = let l : d < 10 = ltb-true d 10 q in let m : 48 + d < 58 = omega arith in rw (lt-ltb (48 + d) 58 m) (omega arith)
    go false q = let l : 10 ≤ d = ltb-false d 10 q in let m : 58 ≤ 87 + d = omega arith in rw (le-ltb (87 + d) 58 m) (omega arith)

fold_append : {A B : Type 0} (f : A → B → A) (a : A) (s t : List B) → foldl f a (s ++ t) ≡ foldl f (foldl f a s) t
fold_append f a [] t = refl
fold_append f a (x ∷ s) t = fold_append f (f a x) s t

back_one : (n : ℕ) → n < 10 → number_of (decimal n) ≡ n
back_one n h = ap number_of (decimal_one n h) ∙ rw (digit_back n (omega arith)) (omega arith)

back_more : (n : ℕ) → 10 ≤ n → number_of (decimal (n / 10)) ≡ n / 10 → number_of (decimal n) ≡ n
back_more n h e =
    let d : n % 10 < 16 = omega arith in
    ap number_of (decimal_more n h)
    ∙ fold_append (λ v c. v * 10 + digit_of c) 0 (decimal (n / 10)) (digit (n % 10) ∷ [])
    ∙ rw (e, digit_back (n % 10) d) (omega arith)

pub decimal_reads_back : DecimalReadsBack
decimal_reads_back = by_tenths (λ n. number_of (decimal n) ≡ n) back_one back_more

-- only 0 has the digit 0 in front
front_append : (s t : List ℕ) (d : ℕ) → 0 < length s → get_or (s ++ t) 0 d ≡ get_or s 0 d
front_append [] t d h = absurd (omega arith)
front_append (x ∷ s) t d h = refl

pub decimal_some : (n : ℕ) → 0 < length (decimal n)
decimal_some = by_tenths (λ n. 0 < length (decimal n)) some_one some_more
  where
    some_one : (n : ℕ) → n < 10 → 0 < length (decimal n)
    some_one n h = rw (decimal_one n h) (omega arith)

    some_more : (n : ℕ) → 10 ≤ n → 0 < length (decimal (n / 10)) → 0 < length (decimal n)
    some_more n h l = rw (decimal_more n h) (omega (arith, length-append (decimal (n / 10)) (digit (n % 10) ∷ [])))

pub no_zero_in_front : NoZeroInFront
no_zero_in_front = by_tenths (λ n. get_or (decimal n) 0 48 ≡ 48 → n ≡ 0) front_one front_more
  where
    front_one : (n : ℕ) → n < 10 → get_or (decimal n) 0 48 ≡ 48 → n ≡ 0
    front_one n h e =
        let q : digit n ≡ 48 = rw (decimal_one n h) at e in
        sym (digit_back n (omega arith)) ∙ ap digit_of q

    front_more : (n : ℕ) → 10 ≤ n → (get_or (decimal (n / 10)) 0 48 ≡ 48 → n / 10 ≡ 0) → get_or (decimal n) 0 48 ≡ 48 → n ≡ 0
    front_more n h ih e =
        let q : get_or (decimal (n / 10)) 0 48 ≡ 48 = sym (front_append (decimal (n / 10)) (digit (n % 10) ∷ []) 48 (decimal_some (n / 10))) ∙ (rw (decimal_more n h) at e) in
        let z : n / 10 ≡ 0 = ih q in
        absurd (omega arith)

-- ---- lengths

short_step : (k n : ℕ) → (10 ≤ n → length (decimal (n / 10)) ≤ k) → length (decimal n) ≤ suc k
short_step k n ih = go (ltb n 10) refl
  where
    go : (b : Bool) → ltb n 10 ≡ b → length (decimal n) ≤ suc k
    go true q =
        let e : length (decimal n) ≡ 1 = ap length (decimal_one n (ltb-true n 10 q)) in
        omega arith
    go false q =
        let l : 10 ≤ n = ltb-false n 10 q in
        let e : length (decimal n) ≡ length (decimal (n / 10)) + 1 = ap length (decimal_more n l) ∙ length-append (decimal (n / 10)) (digit (n % 10) ∷ []) in
        omega (arith, ih l)

-- a tenth of a number is below a tenth of its bound
pub tenth_below : (n w : ℕ) → n < w * 10 → n / 10 < w
tenth_below n w h = omega arith

pub decimal_is_short : DecimalIsShort
decimal_is_short zero n p h = absurd (omega arith)
decimal_is_short (suc zero) n p h =
    let l : n < 10 = h in
    let e : length (decimal n) ≡ 1 = ap length (decimal_one n l) in
    omega arith
decimal_is_short (suc (suc k)) n p h = short_step (suc k) n (λ l. decimal_is_short (suc k) (n / 10) (omega arith) (tenth_below n (10 ^ suc k) (rw pow-suc at h)))

pub hex_nothing : hex [] ≡ []
unfolding hex
hex_nothing = refl

pub two_an_octet : TwoAnOctet
unfolding hex
two_an_octet [] = refl
two_an_octet (x ∷ s) = omega (arith, two_an_octet s)

pub hex_reads_back : HexReadsBack
unfolding hex octets_of
hex_reads_back [] o = refl
hex_reads_back (x ∷ s) o =
    let a : x / 16 < 16 = omega (arith, o.0) in
    let b : x % 16 < 16 = omega arith in
    let e : x / 16 * 16 + x % 16 ≡ x = omega arith in
    rw (digit_back (x / 16) a, digit_back (x % 16) b, e, hex_reads_back s o.1)
