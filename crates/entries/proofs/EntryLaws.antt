-- The laws of a list of entries, whatever an entry is about. Assumes nothing.
use mathlib.Core.Path.{◌≡◌, refl, ap, sym, ◌∙◌}
use mathlib.Core.Bool.{Bool, true, false, cond, ◌||◌, or-true, false≢true}
use mathlib.Core.List.{List, [], ◌∷◌, ◌++◌, append-nil}
use Prim.Native.Nat.{ℕ, zero, suc, ◌+◌, ◌≤◌, ◌<◌}
use native.Mathlib.Numerals.{add-one}
use native.Mathlib.Omega.{arith}
use lib.ListN.{length, take, get_or}
use lib.Seq.{take-suc}
use borrow.Author.Tests.{le-leb, leb-true, leb-false}
use Rattle.octets.proofs.BoolLaws.{and_left, and_right, or_left, or_right}
use Rattle.entries.specs.Entries.{Kind, keep, one_of, each, expires, no_later}
use Rattle.entries.specs.Places.{evict_place}

-- a choice, by the way it went
module _ {A : Type 0} (P : A → Type 0) where
  pub cond_case : (b : Bool) {x y : A} → (b ≡ true → P x) → (b ≡ false → P y) → P (cond b x y)
  cond_case true f g = f refl
  cond_case false f g = g refl

module _ {E : Type 0} (p : E → Bool) where
  pub one_nil : one_of p [] ≡ false
  unfolding one_of
  one_nil = refl

  pub keep_append : (l m : List E) → keep p (l ++ m) ≡ keep p l ++ keep p m
  unfolding keep
  keep_append [] m = refl
  keep_append (e ∷ l) m = go (p e) (keep_append l m)
    where
      go : (b : Bool) → keep p (l ++ m) ≡ keep p l ++ keep p m
          → cond b (e ∷ keep p (l ++ m)) (keep p (l ++ m)) ≡ cond b (e ∷ keep p l) (keep p l) ++ keep p m
      go true h = ap (λ (x : List E). e ∷ x) h
      go false h = h

  pub keep_length : (l : List E) → length (keep p l) ≤ length l
  unfolding keep
  keep_length [] = omega arith
  keep_length (e ∷ l) = go (p e) (keep_length l)
    where
      go : (b : Bool) → length (keep p l) ≤ length l → length (cond b (e ∷ keep p l) (keep p l)) ≤ suc (length l)
      go true h = omega arith
      go false h = omega arith

  pub keep_nil : keep p [] ≡ []
  unfolding keep
  keep_nil = refl

module _ {E : Type 0} (p : E → Bool) (l : List E) (i : ℕ) (d : E) (h : i < length l) where
  keep_one : keep p (take (i + 1) l) ≡ keep p (take i l) ++ cond (p (get_or l i d)) (get_or l i d ∷ []) []
  unfolding keep
  keep_one = rw (add-one, take-suc l i d) (keep_append p (take i l) (get_or l i d ∷ []))

  -- a turn of the loop that keeps
  pub keep_yes : p (get_or l i d) ≡ true → keep p (take (i + 1) l) ≡ keep p (take i l) ++ (get_or l i d ∷ [])
  keep_yes t = rw (keep_one, t)

  pub keep_no : p (get_or l i d) ≡ false → keep p (take (i + 1) l) ≡ keep p (take i l)
  keep_no t = rw (keep_one, t) (append-nil (keep p (take i l)))

-- what holds of one entry and of each
module _ {E : Type 0} (p : E → Bool) where
  pub one_at : (l : List E) (i : ℕ) (d : E) → i < length l → p (get_or l i d) ≡ true → one_of p l ≡ true
  unfolding one_of
  one_at [] i d h t = absurd (omega arith)
  one_at (e ∷ l) zero d h t = rw t
  one_at (e ∷ l) (suc i) d h t = rw (one_at l i d (omega arith) t) (or-true (p e))

  pub one_some : (l : List E) → one_of p l ≡ true → 0 < length l
  unfolding one_of
  one_some [] t = absurd (false≢true t)
  one_some (e ∷ l) t = omega arith

  pub each_cons : (e : E) (l : List E) → p e ≡ true → each p l ≡ true → each p (e ∷ l) ≡ true
  unfolding each
  each_cons e l h k = rw (h, k)

module _ {E : Type 0} (p q : E → Bool) where
  -- none passes p, and what does not pass p passes q
  pub each_else : (l : List E) → one_of p l ≡ false → ((e : E) → p e ≡ false → q e ≡ true) → each q l ≡ true
  unfolding one_of each
  each_else [] n f = refl
  each_else (e ∷ l) n f = rw (f e (or_left (p e) (one_of p l) n), each_else l (or_right (p e) (one_of p l) n) f)

  -- one passes p, and each passes q
  pub one_each : {C : Type 0} (l : List E) → one_of p l ≡ true → each q l ≡ true → ((e : E) → p e ≡ true → q e ≡ true → C) → C
  unfolding one_of each
  one_each [] o a f = absurd (false≢true o)
  one_each {C} (e ∷ l) o a f = go (p e) refl o (λ h. one_each l h (and_right (q e) (each q l) a) f)
    where
      go : (b : Bool) → p e ≡ b → (b || one_of p l) ≡ true → (one_of p l ≡ true → C) → C
      go true t h i = f e t (and_left (q e) (each q l) a)
      go false t h i = i h

-- Of any two entries one expires no later than the other, and so on along.
module _ {K E : Type 0} (kind : Kind K E) where
  total : (d e : E) → no_later kind d e ≡ false → no_later kind e d ≡ true
  total d e h = le-leb (expires kind e).0 (expires kind d).0 (omega (arith, leb-false (expires kind d).0 (expires kind e).0 h))

  along : (c d e : E) → no_later kind c d ≡ true → no_later kind d e ≡ true → no_later kind c e ≡ true
  along c d e h k = le-leb (expires kind c).0 (expires kind e).0 (omega (arith, leb-true (expires kind c).0 (expires kind d).0 h, leb-true (expires kind d).0 (expires kind e).0 k))

  pub itself : (e : E) → no_later kind e e ≡ true
  itself e = go (no_later kind e e) refl
    where
      go : (b : Bool) → no_later kind e e ≡ b → no_later kind e e ≡ true
      go true h = h
      go false h = total e e h

  -- where none behind it expires as early, an entry expires no later than those behind it
  pub before_all : (e : E) (l : List E) → one_of (λ d. no_later kind d e) l ≡ false → each (λ d. no_later kind e d) l ≡ true
  before_all e l n = each_else (λ d. no_later kind d e) (λ d. no_later kind e d) l n (λ d h. total d e h)

  -- what expires no later than each of a list, of which one expires no later than e, expires no later than e
  pub through : (b e : E) (l : List E) → each (λ d. no_later kind b d) l ≡ true → one_of (λ d. no_later kind d e) l ≡ true → no_later kind b e ≡ true
  through b e l a n = one_each (λ d. no_later kind d e) (λ d. no_later kind b d) l n a (λ d h k. along b d e k h)

  -- the entry that is evicted expires no later than each
  pub evicts : (l : List E) (z : E) → 0 < length l → each (λ d. no_later kind (get_or l (evict_place kind l) z) d) l ≡ true
  unfolding evict_place
  evicts [] z h = absurd (omega arith)
  evicts (e ∷ l) z h = go (one_of (λ d. no_later kind d e) l) refl (evicts l z)
    where
      go : (b : Bool) → one_of (λ d. no_later kind d e) l ≡ b
          → (0 < length l → each (λ d. no_later kind (get_or l (evict_place kind l) z) d) l ≡ true)
          → each (λ d. no_later kind (get_or (e ∷ l) (cond b (suc (evict_place kind l)) 0) z) d) (e ∷ l) ≡ true
      go true t i =
          let q = i (one_some (λ d. no_later kind d e) l t) in
          each_cons (λ d. no_later kind (get_or l (evict_place kind l) z) d) e l (through (get_or l (evict_place kind l) z) e l q t) q
      go false t i = each_cons (λ d. no_later kind e d) e l (itself e) (before_all e l t)

  pub evict_lt : (l : List E) → 0 < length l → evict_place kind l < length l
  unfolding evict_place
  evict_lt [] h = absurd (omega arith)
  evict_lt (e ∷ l) h =
      cond_case (λ n. n < suc (length l)) (one_of (λ d. no_later kind d e) l) (λ t. omega (arith, evict_lt l (one_some (λ d. no_later kind d e) l t))) (λ _. omega arith)

  -- some expire no later than e exactly if the one that would be evicted does
  pub one_evicts : (l : List E) (z e : E) → 0 < length l → one_of (λ d. no_later kind d e) l ≡ no_later kind (get_or l (evict_place kind l) z) e
  one_evicts l z e h = go (no_later kind (get_or l (evict_place kind l) z) e) refl (one_of (λ d. no_later kind d e) l) refl
    where
      go : (s : Bool) → no_later kind (get_or l (evict_place kind l) z) e ≡ s → (t : Bool) → one_of (λ d. no_later kind d e) l ≡ t → t ≡ s
      go true p t q = sym q ∙ one_at (λ d. no_later kind d e) l (evict_place kind l) z (evict_lt l h) p
      go false p true q = sym (through (get_or l (evict_place kind l) z) e l (evicts l z h) q) ∙ p
      go false p false q = refl
