-- The laws of octets as one number: what is done to the bits of all of them is done to each. Assumes nothing.
use mathlib.Core.Path.{◌≡◌, refl, sym, ◌∙◌, ap, ap₂}
use mathlib.Core.List.{List, [], ◌∷◌, map}
use Prim.Native.Nat.{ℕ, ◌+◌, ◌*◌, ◌-◌, ◌/◌, ◌%◌, ◌^◌, ◌≤◌, ◌<◌}
use native.Mathlib.Nat.{zero-add}
use native.Mathlib.Omega.{arith}
use lib.Bits.{bit_and, bit_or, and_block, and_zero_r, and_le_r, or_block, or_zero_r}
use Rattle.octets.specs.Word.{value, caseless}

-- the bits of weight 32 of as many octets
abbrev pub case_bits : List ℕ → ℕ
case_bits [] = 0
case_bits (x ∷ xs) = 32 + 256 * case_bits xs

abbrev pub Octets : List ℕ → Type 0
Octets [] = Unit
Octets (x ∷ xs) = (x < 256) × Octets xs

abbrev case_bit : ℕ → ℕ
case_bit x = bit_and (x / 2) 32

-- half of a number has the lowest bit of the octets behind the first in front of that one's bits, where no bit is looked at
low_octet : (b x : ℕ) → b < 2 → x < 256 → bit_and (b * 2 ^ 7 + x / 2) 32 ≡ case_bit x
low_octet b x h k = and_block 7 b 0 (x / 2) 32 (omega arith) (omega arith) ∙ ap (λ (y : ℕ). y * 2 ^ 7 + case_bit x) (and_zero_r b) ∙ zero-add (case_bit x)

value_bits : (xs : List ℕ) → Octets xs → bit_and (value xs / 2) (case_bits xs) ≡ value (map case_bit xs)
unfolding value
value_bits [] h = refl
value_bits (x ∷ xs) h =
    let l : x < 256 = h.0 in
    let v : (x + 256 * value xs) / 2 ≡ value xs / 2 * 2 ^ 8 + (value xs % 2 * 2 ^ 7 + x / 2) = omega arith in
    let m : 32 + 256 * case_bits xs ≡ case_bits xs * 2 ^ 8 + 32 = omega arith in
    let i = value_bits xs h.1 in
    let b = low_octet (value xs % 2) x (omega arith) l in
    ap₂ bit_and v m ∙ and_block 8 (value xs / 2) (case_bits xs) (value xs % 2 * 2 ^ 7 + x / 2) 32 (omega arith) (omega arith)
    ∙ ap₂ (λ (y z : ℕ). y * 2 ^ 8 + z) i b ∙ (omega arith)

value_or : (xs : List ℕ) → Octets xs → bit_or (value xs) (value (map case_bit xs)) ≡ value (map caseless xs)
unfolding value caseless
value_or [] h = refl
value_or (x ∷ xs) h =
    let v : x + 256 * value xs ≡ value xs * 2 ^ 8 + x = omega arith in
    let b : case_bit x + 256 * value (map case_bit xs) ≡ value (map case_bit xs) * 2 ^ 8 + case_bit x = omega arith in
    let k : case_bit x ≤ 32 = and_le_r (x / 2) 32 in
    ap₂ bit_or v b ∙ or_block 8 (value xs) (value (map case_bit xs)) x (case_bit x) h.0 (omega arith)
    ∙ ap (λ (y : ℕ). y * 2 ^ 8 + bit_or x (case_bit x)) (value_or xs h.1) ∙ (omega arith)

pub value_caseless : (xs : List ℕ) → Octets xs → bit_or (value xs) (bit_and (value xs / 2) (case_bits xs)) ≡ value (map caseless xs)
value_caseless xs h = ap (bit_or (value xs)) (value_bits xs h) ∙ value_or xs h

-- a capital letter and the small one: the octets from 64 to 95 become those 32 above them, which stay
set_bit : (a r : ℕ) → r < 32 → a / 2 ≡ 1 → bit_or a 1 ≡ 3 → caseless (a * 2 ^ 5 + r) ≡ 3 * 2 ^ 5 + r
unfolding caseless
set_bit a r h e f =
    let q : (a * 2 ^ 5 + r) / 2 ≡ 1 * 2 ^ 5 + (a % 2 * 16 + r / 2) = omega arith in
    let b : case_bit (a * 2 ^ 5 + r) ≡ 32 = ap (λ (y : ℕ). bit_and y 32) q ∙ and_block 5 1 1 (a % 2 * 16 + r / 2) 0 (omega arith) (omega arith) ∙ ap (λ (y : ℕ). 32 + y) (and_zero_r (a % 2 * 16 + r / 2)) in
    ap (bit_or (a * 2 ^ 5 + r)) b ∙ or_block 5 a 1 r 0 h (omega arith) ∙ ap₂ (λ (y z : ℕ). y * 2 ^ 5 + z) f (or_zero_r r)

pub caseless_letter : (x : ℕ) → 64 ≤ x → x < 96 → caseless (x + 32) ≡ caseless x
caseless_letter x h k =
    let p : x ≡ 2 * 2 ^ 5 + (x - 64) = omega arith in
    let q : x + 32 ≡ 3 * 2 ^ 5 + (x - 64) = omega arith in
    ap caseless q ∙ set_bit 3 (x - 64) (omega arith) refl refl ∙ sym (ap caseless p ∙ set_bit 2 (x - 64) (omega arith) refl refl)
