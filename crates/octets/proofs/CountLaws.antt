-- The laws of membership, of lists without repeats and of counting. Assumes nothing.
use mathlib.Core.Path.{◌≡◌, refl, sym, ◌∙◌, ap, subst}
use mathlib.Core.Bool.{Bool, true, false, cond, not, ◌||◌, true≢false}
use mathlib.Core.List.{List, [], ◌∷◌, ◌++◌}
use Prim.Native.Nat.{ℕ, suc, ◌+◌, ◌-◌, ◌≤◌, zero-le}
use native.Mathlib.Omega.{arith}
use lib.ListN.{length}
use borrow.Table.Steps.{cases}
use Rattle.octets.proofs.BoolLaws.{and_left, and_right}
use Rattle.octets.specs.Compare.{same_octets}
use Rattle.octets.proofs.CompareLaws.{same_self, same_true}
use Rattle.octets.specs.Count.{Octets, member, distinct, Counts, without}

-- ---- strings of octets, equal or not

pub same_yes : (a b : Octets) → a ≡ b → same_octets a b ≡ true
same_yes a b e = rw e (same_self b)

pub same_no : (a b : Octets) → ¬ (a ≡ b) → same_octets a b ≡ false
same_no a b q = cases (same_octets a b) (λ e. absurd (q (same_true a b e))) (λ e. e)

pub same_dec : (a b : Octets) → Dec (a ≡ b)
same_dec a b = cases (same_octets a b) (λ e. yes (same_true a b e)) (λ e. no (λ p. true≢false (sym (same_yes a b p) ∙ e)))

-- ---- membership

pub member_here : (a x : Octets) (l : List Octets) → x ≡ a → member a (x ∷ l) ≡ true
unfolding member
member_here a x l p = rw (same_yes x a p)

pub member_on : (a x : Octets) (l : List Octets) → ¬ (x ≡ a) → member a (x ∷ l) ≡ member a l
unfolding member
member_on a x l q = rw (same_no x a q)

pub member_last : (l : List Octets) (a b : Octets) → member b (l ++ (a ∷ [])) ≡ cond (same_octets a b) true (member b l)
unfolding member
member_last [] a b = go (same_octets a b)
  where
    go : (v : Bool) → (v || false) ≡ cond v true false
    go true = refl
    go false = refl
member_last (x ∷ l) a b = go (same_octets x b) (same_octets a b) (member_last l a b)
  where
    go : (v w : Bool) → member b (l ++ (a ∷ [])) ≡ cond w true (member b l) → (v || member b (l ++ (a ∷ []))) ≡ cond w true (v || member b l)
    go true true ih = refl
    go true false ih = refl
    go false w ih = ih

-- ---- a list without repeats, by its head and its rest

pub distinct_head : (x : Octets) (l : List Octets) → distinct (x ∷ l) ≡ true → member x l ≡ false
unfolding distinct
distinct_head x l h = off (member x l) (and_left (not (member x l)) (distinct l) h)
  where
    off : (b : Bool) → not b ≡ true → b ≡ false
    off true e = absurd (true≢false (sym e))
    off false e = refl

pub distinct_rest : (x : Octets) (l : List Octets) → distinct (x ∷ l) ≡ true → distinct l ≡ true
unfolding distinct
distinct_rest x l h = and_right (not (member x l)) (distinct l) h

pub distinct_cons : (x : Octets) (l : List Octets) → member x l ≡ false → distinct l ≡ true → distinct (x ∷ l) ≡ true
unfolding distinct
distinct_cons x l m d = rw (m, d)

pub distinct_nil : distinct [] ≡ true
unfolding distinct
distinct_nil = refl

pub distinct_last : (l : List Octets) (a : Octets) → distinct l ≡ true → member a l ≡ false → distinct (l ++ (a ∷ [])) ≡ true
distinct_last [] a d m = distinct_cons a [] (unfold member in refl) distinct_nil
distinct_last (x ∷ l) a d m = go (same_dec x a) (distinct_last l a (distinct_rest x l d))
  where
    go : Dec (x ≡ a) → (member a l ≡ false → distinct (l ++ (a ∷ [])) ≡ true) → distinct (x ∷ (l ++ (a ∷ []))) ≡ true
    go (yes p) ih = absurd (true≢false (sym (member_here a x l p) ∙ m))
    go (no q) ih =
        distinct_cons x (l ++ (a ∷ [])) (member_last l a x ∙ ap (λ (t : Bool). cond t true (member x l)) (same_no a x (λ e. q (sym e))) ∙ distinct_head x l d)
        (ih (sym (member_on a x l q) ∙ m))

-- ---- a list without one of its strings

without_here : (a x : Octets) (l : List Octets) → x ≡ a → without a (x ∷ l) ≡ without a l
unfolding without
without_here a x l p = rw (same_yes x a p)

without_on : (a x : Octets) (l : List Octets) → ¬ (x ≡ a) → without a (x ∷ l) ≡ x ∷ without a l
unfolding without
without_on a x l q = rw (same_no x a q)

member_without_same : (a : Octets) (l : List Octets) → member a (without a l) ≡ false
member_without_same a [] = unfold without member in refl
member_without_same a (x ∷ l) = go (same_dec x a) (member_without_same a l)
  where
    go : Dec (x ≡ a) → member a (without a l) ≡ false → member a (without a (x ∷ l)) ≡ false
    go (yes p) h = rw (without_here a x l p) h
    go (no q) h = rw (without_on a x l q) (member_on a x (without a l) q ∙ h)

member_without_other : (y a : Octets) (l : List Octets) → ¬ (a ≡ y) → member y (without a l) ≡ member y l
member_without_other y a [] n = unfold without in refl
member_without_other y a (x ∷ l) n = go (same_dec x a) (same_dec x y) (member_without_other y a l n)
  where
    go : Dec (x ≡ a) → Dec (x ≡ y) → member y (without a l) ≡ member y l → member y (without a (x ∷ l)) ≡ member y (x ∷ l)
    go (yes p) (yes r) h = absurd (n (sym p ∙ r))
    go (yes p) (no r) h = rw (without_here a x l p) (h ∙ sym (member_on y x l r))
    go (no q) (yes r) h = rw (without_on a x l q) (member_here y x (without a l) r ∙ sym (member_here y x l r))
    go (no q) (no r) h = rw (without_on a x l q) (member_on y x (without a l) r ∙ h ∙ sym (member_on y x l r))

pub member_without : (a b : Octets) (l : List Octets) → member b (without a l) ≡ cond (same_octets a b) false (member b l)
member_without a b l = go (same_dec a b)
  where
    go : Dec (a ≡ b) → member b (without a l) ≡ cond (same_octets a b) false (member b l)
    go (yes r) = rw (same_yes a b r) (ap (λ (u : Octets). member u (without a l)) (sym r) ∙ member_without_same a l)
    go (no r) = rw (same_no a b r) (member_without_other b a l r)

without_absent : (a : Octets) (l : List Octets) → member a l ≡ false → without a l ≡ l
without_absent a [] h = unfold without in refl
without_absent a (x ∷ l) h = go (same_dec x a) (without_absent a l)
  where
    go : Dec (x ≡ a) → (member a l ≡ false → without a l ≡ l) → without a (x ∷ l) ≡ x ∷ l
    go (yes p) f = absurd (true≢false (sym (member_here a x l p) ∙ h))
    go (no q) f = without_on a x l q ∙ ap (λ (m : List Octets). x ∷ m) (f (sym (member_on a x l q) ∙ h))

length_without : (a : Octets) (l : List Octets) → distinct l ≡ true → member a l ≡ true → suc (length (without a l)) ≡ length l
length_without a [] d h = absurd (true≢false (sym h ∙ (unfold member in refl)))
length_without a (x ∷ l) d h = go (same_dec x a) (length_without a l (distinct_rest x l d))
  where
    go : Dec (x ≡ a) → (member a l ≡ true → suc (length (without a l)) ≡ length l) → suc (length (without a (x ∷ l))) ≡ suc (length l)
    go (yes p) f = rw (without_here a x l p) (ap (λ (m : List Octets). suc (length m)) (without_absent a l (subst (λ (u : Octets). member u l ≡ false) p (distinct_head x l d))))
    go (no q) f = rw (without_on a x l q) (ap suc (f (sym (member_on a x l q) ∙ h)))

pub distinct_without : (a : Octets) (l : List Octets) → distinct l ≡ true → distinct (without a l) ≡ true
distinct_without a [] d = unfold without in d
distinct_without a (x ∷ l) d = go (same_dec x a) (distinct_without a l (distinct_rest x l d))
  where
    go : Dec (x ≡ a) → distinct (without a l) ≡ true → distinct (without a (x ∷ l)) ≡ true
    go (yes p) h = rw (without_here a x l p) h
    go (no q) h = rw (without_on a x l q) (distinct_cons x (without a l) (member_without_other x a l (λ r. q (sym r)) ∙ distinct_head x l d) h)

fewer : (l m : List Octets) → distinct l ≡ true → distinct m ≡ true → ((a : Octets) → member a l ≡ true → member a m ≡ true) → length l ≤ length m
fewer [] m d e s = zero-le
fewer (x ∷ l) m d e s =
    let f : length l ≤ length (without x m) = fewer l (without x m) (distinct_rest x l d) (distinct_without x m e) within in
    let g : suc (length (without x m)) ≡ length m = length_without x m e (s x (member_here x x l refl)) in
    omega arith
  where
    within : (a : Octets) → member a l ≡ true → member a (without x m) ≡ true
    within a h = go (same_dec x a)
      where
        go : Dec (x ≡ a) → member a (without x m) ≡ true
        go (yes p) = absurd (true≢false (sym h ∙ ap (λ (u : Octets). member u l) (sym p) ∙ distinct_head x l d))
        go (no q) = member_without_other a x m q ∙ s a (member_on a x l q ∙ h)

-- ---- counting

pub counts_le : {n m : ℕ} {p q : Octets → Bool} → Counts n p → Counts m q → ((a : Octets) → p a ≡ true → q a ≡ true) → n ≤ m
counts_le {n = n} {m = m} c d s =
    let f : length c.list ≤ length d.list = fewer c.list d.list c.once d.once (λ a h. sym (d.exactly a) ∙ s a (c.exactly a ∙ h)) in
    let g : length c.list ≡ n = c.number in
    let h : length d.list ≡ m = d.number in
    omega arith

-- what is counted has one number: where the tests agree, the numbers do
pub counts_eq : {n m : ℕ} {p q : Octets → Bool} → Counts n p → Counts m q → ((a : Octets) → p a ≡ q a) → n ≡ m
counts_eq {n = n} {m = m} c d e =
    let l : n ≤ m = counts_le c d (λ a h. sym (e a) ∙ h) in
    let k : m ≤ n = counts_le d c (λ a h. e a ∙ h) in
    omega arith

pub counts_none : {p : Octets → Bool} → Counts 0 p → (a : Octets) → p a ≡ false
counts_none {p} c a = go c.list c.number (c.exactly a)
  where
    go : (l : List Octets) → length l ≡ 0 → p a ≡ member a l → p a ≡ false
    go [] e h = h ∙ (unfold member in refl)
    go (x ∷ l) e h = absurd (omega arith)

pub counts_nothing : Counts 0 (λ a. false)
unfolding member
counts_nothing = record { list = []; once = distinct_nil; number = refl; exactly = λ a. refl }

pub counts_list : (l : List Octets) → distinct l ≡ true → Counts (length l) (λ a. member a l)
counts_list l d = record { list = l; once = d; number = refl; exactly = λ a. refl }

pub counts_ext : {n : ℕ} {p q : Octets → Bool} → ((a : Octets) → p a ≡ q a) → Counts n p → Counts n q
counts_ext e c = record { list = c.list; once = c.once; number = c.number; exactly = λ a. sym (e a) ∙ c.exactly a }

abbrev pub one : Bool → ℕ
one true = 1
one false = 0

-- one more, one fewer, or as many: the law of every write
pub counts_mark : {n : ℕ} {p : Octets → Bool} (a : Octets) (v : Bool) → Counts n p → Counts ((n + one v) - one (p a)) (λ b. cond (same_octets a b) v (p b))
counts_mark {n = n} {p = p} a v c = go v (p a) refl
  where
    keep : (w : Bool) → p a ≡ w → (b : Octets) → cond (same_octets a b) w (p b) ≡ member b c.list
    keep w e b = on (same_dec a b)
      where
        on : Dec (a ≡ b) → cond (same_octets a b) w (p b) ≡ member b c.list
        on (yes r) = rw (same_yes a b r) (sym e ∙ c.exactly a ∙ ap (λ (u : Octets). member u c.list) r)
        on (no r) = rw (same_no a b r) (c.exactly b)

    more : (b : Octets) → cond (same_octets a b) true (p b) ≡ member b (a ∷ c.list)
    more b = on (same_dec a b)
      where
        on : Dec (a ≡ b) → cond (same_octets a b) true (p b) ≡ member b (a ∷ c.list)
        on (yes r) = rw (same_yes a b r) (sym (member_here b a c.list r))
        on (no r) = rw (same_no a b r) (c.exactly b ∙ sym (member_on b a c.list r))

    less : (b : Octets) → cond (same_octets a b) false (p b) ≡ member b (without a c.list)
    less b = ap (cond (same_octets a b) false) (c.exactly b) ∙ sym (member_without a b c.list)

    go : (w x : Bool) → p a ≡ x → Counts ((n + one w) - one x) (λ b. cond (same_octets a b) w (p b))
    go true true e = record { list = c.list; once = c.once; number = (let f : length c.list ≡ n = c.number in omega arith); exactly = keep true e }
    go false false e = record { list = c.list; once = c.once; number = (let f : length c.list ≡ n = c.number in omega arith); exactly = keep false e }
    go true false e = record {
      list = a ∷ c.list;
      once = distinct_cons a c.list (sym (c.exactly a) ∙ e) c.once;
      number = (let f : length c.list ≡ n = c.number in omega arith);
      exactly = more;
    }
    go false true e = record {
      list = without a c.list;
      once = distinct_without a c.list c.once;
      number = (
          let f : length c.list ≡ n = c.number in
          let g : suc (length (without a c.list)) ≡ length c.list = length_without a c.list c.once (sym (c.exactly a) ∙ e) in
          omega arith
          );
      exactly = less;
    }

-- where one is all there are, nothing else is
pub counts_one : {p : Octets → Bool} (a b : Octets) → Counts 1 p → p a ≡ true → ¬ (a ≡ b) → p b ≡ false
counts_one {p = p} a b c t d =
    let m : Counts 0 (λ x. cond (same_octets a x) false (p x)) = subst (λ (v : Bool). Counts (1 - one v) (λ x. cond (same_octets a x) false (p x))) t (counts_mark a false c) in
    sym (ap (λ (v : Bool). cond v false (p b)) (same_no a b d)) ∙ counts_none m b
