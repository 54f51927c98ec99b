-- The laws of fingerprints: equal names have equal ones. Assumes nothing.
use Rattle.std.proofs.Common.{◌≡◌, ℕ, zero, suc, ◌+◌, ◌-◌, ◌/◌, ◌<◌, ◌≤◌, Bool, true, false, cond, not, ◌&&◌, ◌||◌, eqb, ltb, List, [], ◌∷◌, map, length, get_or, take, drop, set, sym, refl, ap, ◌∙◌, true≢false, add-one, arith, length-set, drop_of_length-le, length-take-le, drop-cons, get_or-set_other, get_or-set_same, ltb-true, ltb-false, le-ltb, lt-ltb, eqb-true}
use mathlib.Core.Bool.{or-false, or-true}
use Rattle.std.specs.List.{fold}
use borrow.Author.Tests.{eqb-false}
use borrow.Table.Steps.{cases}
use Rattle.octets.specs.Compare.{same_octets}
use Rattle.octets.specs.Word.{caseless}
use Rattle.octets.proofs.WordLaws.{caseless_letter}
use Rattle.octets.proofs.CompareLaws.{same_differ}
use Rattle.dname.specs.Name.{lower, key, same_name}
use Rattle.dname.proofs.KeyLaws.{Octet, below, capital, above, octet, key_length, key_at}
use Rattle.octets.specs.Count.{Octets, member, distinct}
use Rattle.zone.specs.Survey.{folded, caseless_at, word_at, ends_of, wrapped, few_words, fingerprint_from, fingerprint_words, fingerprint_of, among, mark_of, repeated}

pub prefix_length : {A : Type 0} (l : List A) (n : ℕ) → n ≤ length l → n ≡ length (take n l)
prefix_length l n h = sym (length-take-le n l h)

-- ---- folding leaves a fingerprint as it is

caseless_lower : (x : ℕ) → caseless (lower x) ≡ caseless x
caseless_lower x = go (octet x)
  where
    go : Octet x → caseless (lower x) ≡ caseless x
    go (below h e) = ap caseless e
    go (capital h k e) = ap caseless e ∙ caseless_letter x (omega arith) (omega arith)
    go (above h e) = ap caseless e

at_key_lem : (s : List ℕ) (k : ℕ) → caseless_at (key s) k ≡ caseless_at s k
at_key_lem s k = ap caseless (key_at s k) ∙ caseless_lower (get_or s k 0)

word_key : (s : List ℕ) (i : ℕ) → word_at (key s) i ≡ word_at s i
unfolding word_at
word_key s i = rw (at_key_lem s i, at_key_lem s (i + 1), at_key_lem s (i + 2), at_key_lem s (i + 3), at_key_lem s (i + 4), at_key_lem s (i + 5), at_key_lem s (i + 6), at_key_lem s (i + 7)) refl

ends_key : (s : List ℕ) → ends_of (key s) ≡ ends_of s
unfolding ends_of
ends_key s = rw (key_length s, at_key_lem s 0, at_key_lem s 1, at_key_lem s 2, at_key_lem s 3, at_key_lem s (length s - 4), at_key_lem s (length s - 3), at_key_lem s (length s - 2), at_key_lem s (length s - 1)) refl

from_key : (n i p q : ℕ) (s : List ℕ) → fingerprint_from n i p q (key s) ≡ fingerprint_from n i p q s
unfolding fingerprint_from
from_key zero i p q s = rw (key_length s, word_key s (length s - 8)) refl
from_key (suc n) i p q s = rw (word_key s i) (from_key n (i + 8) (wrapped (p + word_at s i)) (wrapped (q + wrapped (p + word_at s i))) s)

-- the one place where a fingerprint of octets is one of the key
pub fingerprint_key : (name : Octets) → fingerprint_words name ≡ fingerprint_of name
unfolding fingerprint_words
fingerprint_key name = rw (key_length name, ends_key name, from_key (few_words ((length name - 1) / 8)) 0 0 0 name) refl

-- names with different fingerprints are different
pub fingerprint_differ : (a b : Octets) → (fingerprint_of a ≡ fingerprint_of b → ⊥) → same_name a b ≡ false
unfolding same_name
fingerprint_differ a b h = same_differ fingerprint_words (key a) (key b) h

-- ---- loops over words and over fingerprints

-- what one more word makes of the two sums
abbrev pub more : List ℕ → ℕ → ℕ → ℕ
more s i p = wrapped (p + word_at s i)

pub fingerprint_least : (s : List ℕ) → length s < 4 → fingerprint_words s ≡ 0
unfolding fingerprint_words
fingerprint_least s h = rw (lt-ltb (length s) 8 (omega arith), lt-ltb (length s) 4 h)

pub fingerprint_short : (s : List ℕ) → 4 ≤ length s → length s < 8 → fingerprint_words s ≡ folded (ends_of s)
unfolding fingerprint_words
fingerprint_short s l h = rw (lt-ltb (length s) 8 h, le-ltb (length s) 4 l)

pub fingerprint_long : (s : List ℕ) → 8 ≤ length s → fingerprint_words s ≡ fingerprint_from (few_words ((length s - 1) / 8)) 0 0 0 s
unfolding fingerprint_words
fingerprint_long s h = rw (le-ltb (length s) 8 h)

-- of so many words, fifteen at most
pub few_words_is : (n m : ℕ) → (n < 15 → m ≡ n) → (15 ≤ n → m ≡ 15) → m ≡ few_words n
unfolding few_words
few_words_is n m f g = go (ltb n 15) refl
  where
    go : (b : Bool) → ltb n 15 ≡ b → m ≡ cond b n 15
    go true e = f (ltb-true n 15 e)
    go false e = g (ltb-false n 15 e)

pub fingerprint_step : (n left i p q : ℕ) (s : List ℕ) → n ≡ suc left → fingerprint_from n i p q s ≡ fingerprint_from left (i + 8) (more s i p) (wrapped (q + more s i p)) s
unfolding fingerprint_from
fingerprint_step n left i p q s e = rw e

pub fingerprint_end : (n i p q : ℕ) (s : List ℕ) → n ≡ 0 → fingerprint_from n i p q s ≡ folded (wrapped (q + more s (length s - 8) p))
unfolding fingerprint_from
fingerprint_end n i p q s e = rw e

pub mark_low : (x : ℕ) → mark_of x < 1024
unfolding mark_of
mark_low x = omega arith

pub among_step : (x : ℕ) (p : List ℕ) (j : ℕ) → j < length p → among x (drop j p) ≡ (eqb (get_or p j 0) x || among x (drop (j + 1) p))
unfolding among
among_step x p j h = rw (add-one, drop-cons p j 0 h)

pub among_end : (x : ℕ) (p : List ℕ) (j : ℕ) → length p ≤ j → among x (drop j p) ≡ false
unfolding among
among_end x p j h = rw (drop_of_length-le p h)

pub repeated_step : (p : List ℕ) (i : ℕ) → i < length p → repeated (drop i p) ≡ (among (get_or p i 0) (drop (i + 1) p) || repeated (drop (i + 1) p))
unfolding repeated
repeated_step p i h = rw (add-one, drop-cons p i 0 h)

pub repeated_end : (p : List ℕ) (i : ℕ) → length p ≤ i → repeated (drop i p) ≡ false
unfolding repeated
repeated_end p i h = rw (drop_of_length-le p h)

pub among_fold : (x : ℕ) (b : Bool) (p : List ℕ) → fold (λ hit y. hit || eqb y x) b p ≡ (b || among x p)
unfolding among
among_fold x b [] = sym (or-false b)
among_fold x b (y ∷ p) = among_fold x (b || eqb y x) p ∙ or_assoc b (eqb y x) (among x p)
  where
    or_assoc : (a c d : Bool) → ((a || c) || d) ≡ (a || (c || d))
    or_assoc true c d = refl
    or_assoc false c d = refl

-- each compared with those behind it
module _ (p rest : List ℕ) (so_far : repeated p ≡ repeated rest) where
  module _ (x : ℕ) (behind : List ℕ) (is : rest ≡ x ∷ behind) (hit : Bool) (h : hit ≡ among x behind) where
    pub repeat_found : hit ≡ true → true ≡ repeated p
    unfolding repeated
    repeat_found t = sym (so_far ∙ ap repeated is ∙ rw (sym h ∙ t))

    pub repeat_not : hit ≡ false → repeated p ≡ repeated behind
    unfolding repeated
    repeat_not t = so_far ∙ ap repeated is ∙ rw (sym h ∙ t)

  pub repeat_end : length rest ≡ 0 → false ≡ repeated p
  repeat_end e = sym (so_far ∙ repeated_end rest 0 (omega arith))

-- those from a place on repeat: all do
pub repeated_later : (p : List ℕ) (i : ℕ) → repeated (drop i p) ≡ true → repeated p ≡ true
unfolding repeated
repeated_later p zero h = h
repeated_later [] (suc i) h = h
repeated_later (x ∷ p) (suc i) h = rw (repeated_later p i h) (or-true (among x p))

-- the fingerprints from a place on have their marks
pub record Marked (p : List ℕ) (seen : List Bool) (i : ℕ) : Type 0 where
  pub room : length seen ≡ 1024
  pub marks : (x : ℕ) → among x (drop i p) ≡ true → get_or seen (mark_of x) false ≡ false → ⊥

pub marked_none : (p : List ℕ) (seen : List Bool) → length seen ≡ 1024 → Marked p seen (length p)
marked_none p seen l = record { room = l; marks = λ x t e. true≢false (sym t ∙ among_end x p (length p) (omega arith)) }

-- one step back, to the fingerprint `it` with its mark
module _ (p : List ℕ) (seen : List Bool) (i : ℕ) (some : 0 < i) (below : i ≤ length p) (m : Marked p seen i) (at : ℕ) (mark : at ≡ mark_of (get_or p (i - 1) 0)) where
  abbrev it : ℕ
  it = get_or p (i - 1) 0

  back : (x : ℕ) → among x (drop (i - 1) p) ≡ (eqb it x || among x (drop i p))
  back x =
      let e : i - 1 + 1 ≡ i = omega arith in
      among_step x p (i - 1) (omega arith) ∙ ap (λ (k : ℕ). eqb it x || among x (drop k p)) e

  repeated_back : repeated (drop (i - 1) p) ≡ (among it (drop i p) || repeated (drop i p))
  repeated_back =
      let e : i - 1 + 1 ≡ i = omega arith in
      repeated_step p (i - 1) (omega arith) ∙ ap (λ (k : ℕ). among it (drop k p) || repeated (drop k p)) e

  marked_new : get_or seen at false ≡ false → among it (drop i p) ≡ false
  marked_new e = cases (among it (drop i p)) (λ t. absurd (m.marks it t (ap (λ (k : ℕ). get_or seen k false) (sym mark) ∙ e))) (λ f. f)

  -- the mark of an equal one
  same_mark : (x : ℕ) → eqb it x ≡ true → at ≡ mark_of x
  same_mark x q = mark ∙ ap mark_of (eqb-true it x q)

  -- its mark is put, or was there
  pub marked_put : Marked p (set seen at true) (i - 1)
  marked_put = record {
    room = length-set seen at true ∙ m.room;
    marks = λ x t e. go x (eqb it x) refl (sym (back x) ∙ t) e;
  }
    where
      low : at < length seen
      low = let r = m.room in let h = mark_low it in omega (arith, mark)

      put : (x : ℕ) → at ≡ mark_of x → get_or (set seen at true) (mark_of x) false ≡ false → ⊥
      put x q e =
          true≢false (sym (get_or-set_same seen at true false low) ∙ ap (λ (k : ℕ). get_or (set seen at true) k false) q ∙ e)

      other : (x : ℕ) → among x (drop i p) ≡ true → get_or (set seen at true) (mark_of x) false ≡ false → (b : Bool) → eqb (mark_of x) at ≡ b → ⊥
      other x t e true q = put x (sym (eqb-true (mark_of x) at q)) e
      other x t e false q = m.marks x t (sym (get_or-set_other seen at (mark_of x) true false (eqb-false (mark_of x) at q)) ∙ e)

      go : (x : ℕ) (b : Bool) → eqb it x ≡ b → (eqb it x || among x (drop i p)) ≡ true → get_or (set seen at true) (mark_of x) false ≡ false → ⊥
      go x true q t e = put x (same_mark x q) e
      go x false q t e = other x (rw q at t) e (eqb (mark_of x) at) refl

  pub marked_keep : (get_or seen at false ≡ false → ⊥) → Marked p seen (i - 1)
  marked_keep n = record { room = m.room; marks = λ x t e. go x (eqb it x) refl (sym (back x) ∙ t) e }
    where
      go : (x : ℕ) (b : Bool) → eqb it x ≡ b → (eqb it x || among x (drop i p)) ≡ true → get_or seen (mark_of x) false ≡ false → ⊥
      go x true q t e = n (ap (λ (k : ℕ). get_or seen k false) (same_mark x q) ∙ e)
      go x false q t e = m.marks x (rw q at t) e

  -- still none repeats, or some do
  pub back_new : get_or seen at false ≡ false → repeated (drop i p) ≡ false → repeated (drop (i - 1) p) ≡ false
  back_new e h = repeated_back ∙ rw (marked_new e, h)

  pub back_not : among it (drop i p) ≡ false → repeated (drop i p) ≡ false → repeated (drop (i - 1) p) ≡ false
  back_not f h = repeated_back ∙ rw (f, h)

  pub back_again : among it (drop i p) ≡ true → true ≡ repeated p
  back_again t = sym (repeated_later p (i - 1) (repeated_back ∙ rw t))

-- ---- no two fingerprints equal: no two strings equal

module _ (f : Octets → ℕ) where
  member_none : (x : Octets) (xs : List Octets) → among (f x) (map f xs) ≡ false → member x xs ≡ false
  unfolding among member
  member_none x [] e = refl
  member_none x (y ∷ ys) e = go (eqb (f y) (f x)) refl e (member_none x ys)
    where
      go : (b : Bool) → eqb (f y) (f x) ≡ b → (b || among (f x) (map f ys)) ≡ false → (among (f x) (map f ys) ≡ false → member x ys ≡ false) → (same_octets y x || member x ys) ≡ false
      go true q r ih = cc
      go false q r ih = rw (same_differ f y x (eqb-false (f y) (f x) q), ih r)

  pub clear_distinct : (xs : List Octets) → repeated (map f xs) ≡ false → distinct xs ≡ true
  unfolding repeated distinct
  clear_distinct [] e = refl
  clear_distinct (x ∷ xs) e = go (among (f x) (map f xs)) refl e (clear_distinct xs)
    where
      go : (b : Bool) → among (f x) (map f xs) ≡ b → (b || repeated (map f xs)) ≡ false → (repeated (map f xs) ≡ false → distinct xs ≡ true) → (not (member x xs) && distinct xs) ≡ true
      go true q r ih = cc
      go false q r ih = rw (member_none x xs q, ih r)
