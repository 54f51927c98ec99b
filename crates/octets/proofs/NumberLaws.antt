-- The laws of numbers in strings of octets, each over every width. Assumes nothing.
use mathlib.Core.Path.{◌≡◌, refl, sym, ◌∙◌}
use mathlib.Core.List.{List, [], ◌∷◌, ◌++◌}
use Prim.Native.Nat.{ℕ, zero, suc, ◌+◌, ◌*◌, ◌/◌, ◌%◌, ◌^◌, ◌≤◌, ◌<◌}
use native.Mathlib.Omega.{arith}
use native.Mathlib.Nat.{div-add-mod', div-lt_iff_lt-mul, div-eq_of_lt, mod-eq_of_lt, mul-add-div_right, mul-add-mod_self_right, pow-suc}
use native.Mathlib.Numerals.{add-one}
use lib.ListN.{length, get_or, take, drop, length-append, get_or-append, get_or-eq_default, length-drop}
use lib.Seq.{get_or_at, get_or-drop, take-suc}
use Rattle.octets.specs.Number.{number_at, big_endian}

-- past the end a read gives 0
pub past_end : (s : List ℕ) (i : ℕ) → length s ≤ i → 0 ≡ get_or s i 0
past_end s i h = sym (get_or-eq_default s 0 h)

pub length_big_endian : (width v : ℕ) → length (big_endian width v) ≡ width
unfolding big_endian
length_big_endian zero v = refl
length_big_endian (suc width) v = length-append (big_endian width (v / 256)) (v % 256 ∷ []) ∙ rw (length_big_endian width (v / 256), add-one)

-- what stands behind the octets of a number does not change it
pub number_append : (width : ℕ) (xs ys : List ℕ) (at : ℕ) → at + width ≤ length xs → number_at width (xs ++ ys) at ≡ number_at width xs at
unfolding number_at
number_append zero xs ys at h = refl
number_append (suc width) xs ys at h = rw (number_append width xs ys at (omega arith), get_or-append xs ys 0 (at + width) (omega arith))

-- a number that was written reads back, if the width can hold it
pub number_big_endian : (width v : ℕ) → v < 256 ^ width → number_at width (big_endian width v) 0 ≡ v
unfolding number_at big_endian
number_big_endian zero v h = omega arith
number_big_endian (suc width) v h =
    let n : length (big_endian width (v / 256)) ≡ width = length_big_endian width (v / 256) in
    let l : number_at width (big_endian width (v / 256) ++ (v % 256 ∷ [])) 0 ≡ v / 256 = number_append width (big_endian width (v / 256)) (v % 256 ∷ []) 0 (omega arith) ∙ number_big_endian width (v / 256) ((div-lt_iff_lt-mul (omega arith)).1 (rw pow-suc at h)) in
    let r : get_or (big_endian width (v / 256) ++ (v % 256 ∷ [])) (0 + width) 0 ≡ v % 256 = get_or_at (big_endian width (v / 256)) (v % 256) [] 0 (0 + width) (omega arith) in
    rw (l, r) (div-add-mod' v 256)

-- octets that were read are written back
pub big_endian_number : (width : ℕ) (s : List ℕ) (at : ℕ) → at + width ≤ length s → ((i : ℕ) → get_or s i 0 < 256) → big_endian width (number_at width s at) ≡ take width (drop at s)
unfolding number_at big_endian
big_endian_number zero s at h o = refl
big_endian_number (suc width) s at h o =
    let x = get_or s (at + width) 0 in
    let n = number_at width s at in
    let q : (n * 256 + x) / 256 ≡ n = mul-add-div_right (omega arith) n x ∙ omega (arith, div-eq_of_lt (o (at + width))) in
    let m : (n * 256 + x) % 256 ≡ x = mul-add-mod_self_right n 256 x ∙ mod-eq_of_lt (o (at + width)) in
    let l : width < length (drop at s) = omega (arith, length-drop at s) in
    rw (q, m, big_endian_number width s at (omega arith) o, take-suc (drop at s) width 0, get_or-drop)
