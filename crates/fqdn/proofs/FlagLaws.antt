-- The flags that an answer sends; and that the table is what the steps of the code come to.
use mathlib.Core.Path.{◌≡◌, refl, sym, ap, ◌∙◌}
use mathlib.Core.Bool.{Bool, true, false, not, cond, ◌&&◌, ◌||◌, beq}
use mathlib.Core.List.{List, [], ◌∷◌, map}
use mathlib.Core.Logic.{◌⊎◌, inl, inr}
use Prim.Native.Nat.{ℕ, zero, suc, ◌+◌, ◌*◌, ◌/◌, ◌%◌, ◌<◌, ◌≤◌, min}
use native.Mathlib.Nat.{zero-add}
use native.Mathlib.Omega.{arith}
use lib.Bits.{bit_and, bit_or, and_mod, and_le_r}
use lib.Dec.{eqb}
use lib.ListN.{get_or, get_or-map}
use borrow.Author.Tests.{eq-eqb, ne_eqb}
use Rattle.fqdn.specs.Flags.{sent, R, honoured, flag_table, flag_answer}
use Rattle.fqdn.specs.declared.flags.FlagAnswer.{FlagAnswer}

abbrev flags_of : FlagAnswer → ℕ
flags_of answer = answer.flags

abbrev all_flags : List ℕ
all_flags = map flags_of flag_table

-- The flags of an answer are at most N: all are what they are cut off at 4.
pub flags_most : (flags s n : ℕ) → (flag_answer flags s n).flags ≤ 4
unfolding flag_answer
flags_most flags s n =
    let place = flags % 8 + 8 * honoured s + 16 * honoured n in
    let e : get_or all_flags place 0 ≡ min (get_or all_flags place 0) 4 = get_or-map (λ x. min x 4) all_flags place 0 in
    let f : get_or all_flags place 0 ≡ (flag_answer flags s n).flags = get_or-map flags_of flag_table place (sent 0) in
    omega arith

-- The tests of the code: a bit is set in a flags octet; a number says that a bit may be honoured.
abbrev pub is_set : ℕ → ℕ → Bool
is_set flags bit = not (eqb (bit_and flags bit) 0)

abbrev pub may : ℕ → Bool
may number = not (eqb number 0)

-- The refusal, by what the client sets.
abbrev pub is_refused : Bool → Bool → Bool → Bool
is_refused clientS clientO clientN = clientO || clientN && clientS

-- The answer with these bits.
abbrev pub with_bits : Bool → Bool → Bool → FlagAnswer
with_bits s o n = sent (bit_or (bit_or (cond s 1 0) (cond o 2 0)) (cond n 4 0))

-- The answer without N: its S, and O by what the client's S is.
abbrev pub otherwise : Bool → Bool → FlagAnswer
otherwise s clientS = with_bits s (not (beq s clientS)) false

-- What the steps of the code come to, by what the client sets and what may be honoured.
abbrev pub steps : Bool → Bool → Bool → Bool → Bool → FlagAnswer
steps clientS clientO clientN may_s may_n =
    cond (is_refused clientS clientO clientN) R (cond (clientN && may_n) (with_bits false false true) (otherwise (clientS && may_s) clientS))

-- The same at a place of the table.
abbrev steps_at : ℕ → FlagAnswer
steps_at place = steps (is_set (place % 8) 1) (is_set (place % 8) 2) (is_set (place % 8) 4) (may (place % 16 / 8)) (may (place / 16))

-- So many numbers from i on.
abbrev up_from : ℕ → ℕ → List ℕ
up_from i zero = []
up_from i (suc n) = i ∷ up_from (suc i) n

up_at : (n i k : ℕ) → k < n → get_or (up_from i n) k 0 ≡ i + k
up_at zero i k h = absurd (omega arith)
up_at (suc n) i zero h = omega arith
up_at (suc n) i (suc k) h = up_at n (suc i) k (omega arith) ∙ omega arith

-- The one test, computed: the table is what the steps come to, at all 32 places.
table_by_steps : flag_table ≡ map steps_at (up_from 0 32)
table_by_steps = refl

at_place : (place : ℕ) → place < 32 → get_or flag_table place (sent 0) ≡ steps_at place
at_place place h =
    let e : get_or (up_from 0 32) place 0 ≡ place = up_at 32 0 place h ∙ zero-add place in
    ap (λ (table : List FlagAnswer). get_or table place (sent 0)) table_by_steps ∙ get_or-map steps_at (up_from 0 32) place 0 ∙ ap steps_at e

-- The parts of a place.
module _ (low a b : ℕ) (h : low < 8) (x : a ≤ 1) (y : b ≤ 1) where
  at_parts : get_or flag_table (low + 8 * a + 16 * b) (sent 0) ≡ steps (is_set low 1) (is_set low 2) (is_set low 4) (may a) (may b)
  at_parts =
      let place = low + 8 * a + 16 * b in
      let bits : place % 8 ≡ low = omega arith in
      let may_s : place % 16 / 8 ≡ a = omega arith in
      let may_n : place / 16 ≡ b = omega arith in
      at_place place (omega arith) ∙ rw (bits, may_s, may_n)

-- Whether a bit up to N is set depends on the lowest three alone.
low_bit : (flags bit : ℕ) → bit < 8 → bit_and flags bit ≡ bit_and (flags % 8) bit
low_bit flags bit h =
    let e : bit_and flags bit % 8 ≡ bit_and (flags % 8) (bit % 8) = and_mod flags bit 3 in
    let m : bit_and flags bit ≤ bit = and_le_r flags bit in
    let f : bit_and flags bit ≡ bit_and flags bit % 8 = omega arith in
    let g : bit % 8 ≡ bit = omega arith in
    f ∙ e ∙ ap (bit_and (flags % 8)) g

-- A number that says whether a bit may be honoured is 0 or 1 in a place, and says the same there.
honoured_most : (number : ℕ) → honoured number ≤ 1
unfolding honoured
honoured_most zero = omega arith
honoured_most (suc n) = omega arith

may_honoured : (number : ℕ) → may (honoured number) ≡ may number
unfolding honoured
may_honoured zero = refl
may_honoured (suc n) = ap not (sym (ne_eqb (suc n) 0 (λ e. omega arith)))

-- The answer of the definition is what the steps come to.
pub by_steps : (flags s n : ℕ) → flag_answer flags s n ≡ steps (is_set flags 1) (is_set flags 2) (is_set flags 4) (may s) (may n)
unfolding flag_answer
by_steps flags s n =
    at_parts (flags % 8) (honoured s) (honoured n) (omega arith) (honoured_most s) (honoured_most n)
    ∙ rw (low_bit flags 1 (omega arith), low_bit flags 2 (omega arith), low_bit flags 4 (omega arith), may_honoured s, may_honoured n)

-- ---- the ways through the code, by the numbers that it tests

pub refused_o : (flags s n : ℕ) → ¬ (bit_and flags 2 ≡ 0) → R ≡ flag_answer flags s n
refused_o flags s n h = sym (by_steps flags s n ∙ simp (ne_eqb _ _ h))

pub refused_both : (flags s n : ℕ) → bit_and flags 2 ≡ 0 → (¬ (bit_and flags 4 ≡ 0)) × (¬ (bit_and flags 1 ≡ 0)) → R ≡ flag_answer flags s n
refused_both flags s n o b = sym (by_steps flags s n ∙ simp (eq-eqb _ _ o, ne_eqb _ _ b.0, ne_eqb _ _ b.1))

pub not_refused : (flags : ℕ) → bit_and flags 2 ≡ 0 → (¬ (bit_and flags 4 ≡ 0) × (bit_and flags 1 ≡ 0)) ⊎ (bit_and flags 4 ≡ 0)
    → is_refused (is_set flags 1) (is_set flags 2) (is_set flags 4) ≡ false
not_refused flags o (inl b) = simp (eq-eqb _ _ o, ne_eqb _ _ b.0, eq-eqb _ _ b.1)
not_refused flags o (inr b) = simp (eq-eqb _ _ o, eq-eqb _ _ b)

-- a bit that the client sets is granted if it may be honoured
pub granted : (flags weight number : ℕ) → ¬ (bit_and flags weight ≡ 0) → ¬ (number ≡ 0) → (is_set flags weight && may number) ≡ true
granted flags weight number b h = simp (ne_eqb _ _ b, ne_eqb _ _ h)

pub not_granted : (flags weight number : ℕ) → (¬ (bit_and flags weight ≡ 0) × (number ≡ 0)) ⊎ (bit_and flags weight ≡ 0) → (is_set flags weight && may number) ≡ false
not_granted flags weight number (inl b) = simp (ne_eqb _ _ b.0, eq-eqb _ _ b.1)
not_granted flags weight number (inr b) = simp (eq-eqb _ _ b)

-- the bits of the answer: N granted; N not granted, with t the S that is granted
pub with_n : (flags honour_s honour_n : ℕ) (s o n : Bool) → s ≡ false → o ≡ false → n ≡ true → (is_set flags 4 && may honour_n) ≡ true
    → with_bits s o n ≡ cond (is_set flags 4 && may honour_n) (with_bits false false true) (otherwise (is_set flags 1 && may honour_s) (is_set flags 1))
with_n flags honour_s honour_n s o n e f g h = rw (e, f, g, h)

pub without_n : (flags honour_s honour_n : ℕ) (s o n t : Bool) → s ≡ t → o ≡ not (beq t (is_set flags 1)) → n ≡ false → (is_set flags 4 && may honour_n) ≡ false
    → t ≡ (is_set flags 1 && may honour_s)
    → with_bits s o n ≡ cond (is_set flags 4 && may honour_n) (with_bits false false true) (otherwise (is_set flags 1 && may honour_s) (is_set flags 1))
without_n flags honour_s honour_n s o n t e f g h k = rw (e, f, g, h, k)

pub answered : (flags honour_s honour_n : ℕ) (s o n : Bool) (x y z : ℕ) → x ≡ cond s 1 0 → y ≡ cond o 2 0 → z ≡ cond n 4 0
    → is_refused (is_set flags 1) (is_set flags 2) (is_set flags 4) ≡ false
    → with_bits s o n ≡ cond (is_set flags 4 && may honour_n) (with_bits false false true) (otherwise (is_set flags 1 && may honour_s) (is_set flags 1))
    → sent (bit_or (bit_or x y) z) ≡ flag_answer flags honour_s honour_n
answered flags honour_s honour_n s o n x y z e f g h k = rw (e, f, g, by_steps flags honour_s honour_n, h) k
