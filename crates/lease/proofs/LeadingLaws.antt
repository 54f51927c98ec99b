-- The laws of octets as one number. Assumes nothing.
use mathlib.Core.Path.{◌≡◌, refl, sym, ap, subst, ◌∙◌}
use mathlib.Core.Bool.{true, false}
use mathlib.Core.List.{List, [], ◌∷◌}
use Prim.Native.Nat.{ℕ, zero, suc, ◌+◌, ◌*◌, ◌-◌, ◌^◌, ◌/◌, ◌%◌, ◌≤◌, ◌<◌}
use native.Mathlib.Nat.{add-mul-mod_self_left, mul_assoc, mul_comm, add-mul, pow-suc, one-le-pow, mul-lt-mul_of_pos_right, mod-eq_of_lt, mul-div_cancel}
use native.Mathlib.Omega.{arith}
use lib.Dec.{eqb, ltb}
use lib.ListN.{length, get_or, take, drop}
use lib.Seq.{take-take}
use mir.Val.{Val}
use mir.Syntax.{w8}
use denote.Laws.{Is}
use denote.Array.{Array}
use denote.Plain.{UInt}
use borrow.Author.Rules.{elem_Fits}
use borrow.Table.Steps.{cases}
use borrow.Author.Tests.{eqb-true, ltb-true, ltb-false}
use Rattle.octets.specs.Compare.{same_octets}
use Rattle.octets.proofs.CompareLaws.{same_true, same_self}
use Rattle.octets.specs.Word.{value}
use Rattle.lease.specs.Leading.{leading}

-- ---- the leading octets
split : (n : ℕ) (l : List ℕ) → value l ≡ value (take n l) + 256 ^ n * value (drop n l)
unfolding value
split zero l = omega arith
split (suc n) [] = omega arith
split (suc n) (x ∷ xs) =
    let h = split n xs in
    let e : 256 ^ suc n * value (drop n xs) ≡ 256 * (256 ^ n * value (drop n xs)) = ap (λ (k : ℕ). k * value (drop n xs)) (pow-suc 256 n ∙ mul_comm (256 ^ n) 256) ∙ mul_assoc 256 (256 ^ n) (value (drop n xs)) in
    omega (arith, h, e)

shifted : (p q m x y : ℕ) → p * q ≡ m → ((x + p * y) * q) % m ≡ (x * q) % m
shifted p q m x y e =
    let d : (x + p * y) * q ≡ x * q + m * y = add-mul x (p * y) q ∙ ap (λ (k : ℕ). x * q + k) (mul_assoc p y q ∙ ap (λ (k : ℕ). p * k) (mul_comm y q) ∙ sym (mul_assoc p q y) ∙ ap (λ (k : ℕ). k * y) e) in
    ap (λ (k : ℕ). k % m) d ∙ add-mul-mod_self_left (x * q) m y

powers : (n : ℕ) → n ≤ 7 → 256 ^ n * 2 ^ (64 - 8 * n) ≡ 2 ^ 64
powers zero h = refl
powers (suc zero) h = refl
powers (suc (suc zero)) h = refl
powers (suc (suc (suc zero))) h = refl
powers (suc (suc (suc (suc zero)))) h = refl
powers (suc (suc (suc (suc (suc zero))))) h = refl
powers (suc (suc (suc (suc (suc (suc zero)))))) h = refl
powers (suc (suc (suc (suc (suc (suc (suc zero))))))) h = refl
powers (suc (suc (suc (suc (suc (suc (suc (suc n)))))))) h = absurd (omega (arith, h))

leads : (n : ℕ) (s : List ℕ) → n ≤ 7 → (value (take 8 s) * 2 ^ (64 - 8 * n)) % 2 ^ 64 ≡ (value (take n s) * 2 ^ (64 - 8 * n)) % 2 ^ 64
leads n s h =
    let v : value (take 8 s) ≡ value (take n s) + 256 ^ n * value (drop n (take 8 s)) = split n (take 8 s) ∙ ap (λ (l : List ℕ). value l + 256 ^ n * value (drop n (take 8 s))) (take-take n 8 s (omega arith)) in
    ap (λ (k : ℕ). (k * 2 ^ (64 - 8 * n)) % 2 ^ 64) v ∙ shifted (256 ^ n) (2 ^ (64 - 8 * n)) (2 ^ 64) (value (take n s)) (value (drop n (take 8 s))) (powers n h)

lead_same : (n : ℕ) (a b : List ℕ) → take n a ≡ take n b → leading n (value (take 8 a)) ≡ leading n (value (take 8 b))
unfolding leading
lead_same n a b e =
    cases (eqb n 0) (λ z. rw z)
    (λ z. cases (ltb 7 n)
    (λ t. rw (z, t) (ap value (sym (take-take 8 n a (long t)) ∙ ap (take 8) e ∙ take-take 8 n b (long t))))
    (λ t. rw (z, t) (leads n a (short t) ∙ ap (λ (l : List ℕ). (value l * 2 ^ (64 - 8 * n)) % 2 ^ 64) e ∙ sym (leads n b (short t)))))
  where
    long : ltb 7 n ≡ true → 8 ≤ n
    long t = omega (arith, ltb-true 7 n t)

    short : ltb 7 n ≡ false → n ≤ 7
    short t = ltb-false 7 n t

-- octets whose leading ones differ are not the same
pub lead_apart : (n : ℕ) (a b : List ℕ) → (leading n (value (take 8 a)) ≡ leading n (value (take 8 b)) → ⊥) → same_octets (take n a) (take n b) ≡ false
lead_apart n a b h = cases (same_octets (take n a) (take n b)) (λ e. absurd (h (lead_same n a b (same_true (take n a) (take n b) e)))) (λ e. e)

-- the first eight octets of a string of at least as many
pub first_eight : (s : List ℕ) → 8 ≤ length s → take 8 s ≡ get_or s 0 0 ∷ get_or s 1 0 ∷ get_or s 2 0 ∷ get_or s 3 0 ∷ get_or s 4 0 ∷ get_or s 5 0 ∷ get_or s 6 0 ∷ get_or s 7 0 ∷ []
first_eight [] l = absurd (omega (arith, l))
first_eight (a ∷ []) l = absurd (omega (arith, l))
first_eight (a ∷ b ∷ []) l = absurd (omega (arith, l))
first_eight (a ∷ b ∷ c ∷ []) l = absurd (omega (arith, l))
first_eight (a ∷ b ∷ c ∷ d ∷ []) l = absurd (omega (arith, l))
first_eight (a ∷ b ∷ c ∷ d ∷ e ∷ []) l = absurd (omega (arith, l))
first_eight (a ∷ b ∷ c ∷ d ∷ e ∷ f ∷ []) l = absurd (omega (arith, l))
first_eight (a ∷ b ∷ c ∷ d ∷ e ∷ f ∷ g ∷ []) l = absurd (omega (arith, l))
first_eight (a ∷ b ∷ c ∷ d ∷ e ∷ f ∷ g ∷ h ∷ s) l = refl

-- ---- the number says all of at most eight octets
abbrev pub Octets : List ℕ → Type 0
Octets l = (i : ℕ) → get_or l i 0 < 256

-- an array that a function is given holds octets
pub array_octets : (n : ℕ) (l : List ℕ) {vs : List Val} → Is (Array (UInt w8) n) l vs → Octets l
array_octets n l p i = (elem_Fits w8 w8 l p.0 i p.1.1 tt).fits

value_below : (n : ℕ) (l : List ℕ) → Octets l → value (take n l) < 256 ^ n
unfolding value
value_below zero l o = omega arith
value_below (suc n) [] o = one-le-pow (suc n) 256 (omega arith)
value_below (suc n) (x ∷ xs) o =
    let p : x < 256 = o 0 in
    let h = value_below n xs (λ i. o (suc i)) in
    omega (arith, h, pow-suc 256 n)

value_same : (n : ℕ) (a b : List ℕ) → n ≤ length a → n ≤ length b → Octets a → Octets b → value (take n a) ≡ value (take n b) → take n a ≡ take n b
unfolding value
value_same zero a b h k o q e = refl
value_same (suc n) [] b h k o q e = absurd (omega (arith, h))
value_same (suc n) (x ∷ xs) [] h k o q e = absurd (omega (arith, k))
value_same (suc n) (x ∷ xs) (y ∷ ys) h k o q e =
    let u : x < 256 = o 0 in
    let v : y < 256 = q 0 in
    let f : x ≡ y = omega (arith, e) in
    let g : value (take n xs) ≡ value (take n ys) = omega (arith, e) in
    let t : take n xs ≡ take n ys = value_same n xs ys (omega (arith, h)) (omega (arith, k)) (λ i. o (suc i)) (λ i. q (suc i)) g in
    cc

-- a number of at most seven octets loses nothing where it is shifted up to eight
unshifted : (n v : ℕ) → n ≤ 7 → v < 256 ^ n → (v * 2 ^ (64 - 8 * n)) % 2 ^ 64 / 2 ^ (64 - 8 * n) ≡ v
unshifted n v h b =
    let q : 0 < 2 ^ (64 - 8 * n) = one-le-pow (64 - 8 * n) 2 (omega arith) in
    let l : v * 2 ^ (64 - 8 * n) < 256 ^ n * 2 ^ (64 - 8 * n) = mul-lt-mul_of_pos_right b q in
    ap (λ (k : ℕ). k / 2 ^ (64 - 8 * n)) (mod-eq_of_lt (subst (λ (k : ℕ). v * 2 ^ (64 - 8 * n) < k) (powers n h) l)) ∙ mul-div_cancel v q

lead_value : (n : ℕ) (s : List ℕ) → n ≤ 7 → Octets s → (value (take 8 s) * 2 ^ (64 - 8 * n)) % 2 ^ 64 / 2 ^ (64 - 8 * n) ≡ value (take n s)
lead_value n s h o = ap (λ (k : ℕ). k / 2 ^ (64 - 8 * n)) (leads n s h) ∙ unshifted n (value (take n s)) h (value_below n s o)

module _ (n : ℕ) (a b : List ℕ) (h : n ≤ 8) (o : Octets a) (q : Octets b) (e : leading n (value (take 8 a)) ≡ leading n (value (take 8 b))) where
  lead_values : value (take n a) ≡ value (take n b)
  unfolding leading
  lead_values =
      cases (eqb n 0)
      (λ z. let d = eqb-true n 0 z in ap (λ (k : ℕ). value (take k a)) d ∙ sym (ap (λ (k : ℕ). value (take k b)) d))
      (λ z. cases (ltb 7 n)
      (λ t. let d : n ≡ 8 = omega (arith, h, ltb-true 7 n t) in ap (λ (k : ℕ). value (take k a)) d ∙ (rw (z, t) at e) ∙ sym (ap (λ (k : ℕ). value (take k b)) d))
      (λ t. let s = ltb-false 7 n t in sym (lead_value n a s o) ∙ ap (λ (k : ℕ). k / 2 ^ (64 - 8 * n)) (rw (z, t) at e) ∙ lead_value n b s q))

  -- octets whose leading ones agree are the same, if there are at most eight
  pub lead_alike : n ≤ length a → n ≤ length b → same_octets (take n a) (take n b) ≡ true
  lead_alike l m = ap (same_octets (take n a)) (sym (value_same n a b l m o q lead_values)) ∙ same_self (take n a)
