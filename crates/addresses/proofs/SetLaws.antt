-- The laws of address sets: what the structs' writes come to, whichever the family. Assumes nothing.
use mathlib.Core.Path.{◌≡◌, refl, sym, ◌∙◌, ap, subst, fun_ext}
use mathlib.Core.Bool.{Bool, true, false, cond, not, ◌&&◌, ◌||◌, true≢false}
use mathlib.Core.List.{List, [], ◌∷◌, ◌++◌}
use Prim.Native.Nat.{ℕ, ◌+◌, ◌-◌, ◌≤◌, ◌<◌}
use native.Mathlib.Omega.{arith}
use lib.Dec.{leb, ltb}
use lib.ListN.{length}
use borrow.Author.Tests.{leb-true, le-leb, lt-leb, ltb-true, lt-ltb, le-ltb}
use borrow.Table.Steps.{cases}
use Rattle.octets.proofs.BoolLaws.{and_both, and_left, and_right}
use Rattle.octets.specs.Compare.{same_octets}
use Rattle.octets.specs.Count.{Octets, member, distinct, Counts, without}
use Rattle.addresses.specs.Addresses.{Addresses, including, excluding, list4, list6, set_of, sound, empty_set4, empty_set6, joined, within}
use Rattle.addresses.specs.declared.set4.Set4.{Set4}
use Rattle.addresses.specs.declared.set6.Set6.{Set6}
use Rattle.octets.proofs.CountLaws.{same_dec, same_yes, same_no, member_here, member_on, member_last, member_without, distinct_last, distinct_without, counts_eq, counts_list, counts_ext, one, counts_mark}

-- sets with the same addresses are equal: their counts follow
pub set_eq : (s t : Addresses) → Counts s.count s.has → Counts t.count t.has → ((a : Octets) → s.has a ≡ t.has a) → s ≡ t
set_eq s t c d e =
    let n : s.count ≡ t.count = counts_eq c d e in
    let f : s.has ≡ t.has = fun_ext e in
    λ i. record { count = n i; has = f i }

-- ---- every address of one in another

within_has : (l m : List Octets) → within l m ≡ true → (a : Octets) → member a l ≡ true → member a m ≡ true
unfolding within
within_has [] m w a h = absurd (true≢false (sym h ∙ (unfold member in refl)))
within_has (x ∷ l) m w a h = go (same_dec x a) (within_has l m (and_right (member x m) (within l m) w) a)
  where
    go : Dec (x ≡ a) → (member a l ≡ true → member a m ≡ true) → member a m ≡ true
    go (yes p) f = ap (λ (u : Octets). member u m) (sym p) ∙ and_left (member x m) (within l m) w
    go (no q) f = f (sym (member_on a x l q) ∙ h)

has_within : (l m : List Octets) → ((a : Octets) → member a l ≡ true → member a m ≡ true) → within l m ≡ true
unfolding within
has_within [] m f = refl
has_within (x ∷ l) m f = and_both (member x m) (within l m) (f x (member_here x x l refl)) (has_within l m (λ a h. f a (behind a (same_dec x a) h)))
  where
    behind : (a : Octets) → Dec (x ≡ a) → member a l ≡ true → member a (x ∷ l) ≡ true
    behind a (yes p) h = member_here a x l p
    behind a (no q) h = member_on a x l q ∙ h

-- sets of which each is in the other are equal, and only those
pub within_both : (l m : List Octets) → distinct l ≡ true → distinct m ≡ true → within l m ≡ true → within m l ≡ true → set_of l ≡ set_of m
within_both l m d e w v = set_eq (set_of l) (set_of m) (counts_list l d) (counts_list m e) agree
  where
    agree : (a : Octets) → member a l ≡ member a m
    agree a = cases (member a l) (λ h. h ∙ sym (within_has l m w a h)) (λ h. h ∙ sym (absent h))
      where
        absent : member a l ≡ false → member a m ≡ false
        absent h = cases (member a m) (λ t. absurd (true≢false (sym (within_has m l v a t) ∙ h))) (λ t. t)

pub set_within : (l m : List Octets) → set_of l ≡ set_of m → within l m ≡ true
set_within l m e = has_within l m (λ a h. sym (ap (λ (s : Addresses). s.has a) e) ∙ h)

-- ---- a set with an address in it, or without it: one name for both, by which laws speak of both

abbrev pub mark : Octets → Bool → Addresses → Addresses
mark a true s = including a s
mark a false s = excluding a s

pub mark_has : (a : Octets) (v : Bool) (s : Addresses) (b : Octets) → (mark a v s).has b ≡ cond (same_octets a b) v (s.has b)
mark_has a true s b = unfold including in go (same_octets a b)
  where
    go : (t : Bool) → (t || s.has b) ≡ cond t true (s.has b)
    go true = refl
    go false = refl
mark_has a false s b = unfold excluding in go (same_octets a b)
  where
    go : (t : Bool) → (not t && s.has b) ≡ cond t false (s.has b)
    go true = refl
    go false = refl

pub mark_count : (a : Octets) (v : Bool) (s : Addresses) → (mark a v s).count ≡ (s.count + one v) - one (s.has a)
mark_count a true s = unfold including in go (s.has a)
  where
    go : (t : Bool) → cond t s.count (s.count + 1) ≡ (s.count + 1) - one t
    go true = omega arith
    go false = omega arith
mark_count a false s = unfold excluding in go (s.has a)
  where
    go : (t : Bool) → cond t (s.count - 1) s.count ≡ (s.count + 0) - one t
    go true = omega arith
    go false = omega arith

pub mark_counts : (a : Octets) (v : Bool) (s : Addresses) → Counts s.count s.has → Counts (mark a v s).count (mark a v s).has
mark_counts a v s c =
    subst (λ (n : ℕ). Counts n (mark a v s).has) (sym (mark_count a v s)) (counts_ext (λ b. sym (mark_has a v s b)) (counts_mark a v c))

-- an address put in or taken out, however the places change
pub marked : (a : Octets) (v : Bool) (l m : List Octets) → distinct l ≡ true → distinct m ≡ true
    → ((b : Octets) → member b m ≡ cond (same_octets a b) v (member b l)) → set_of m ≡ mark a v (set_of l)
marked a v l m d e f =
    set_eq (set_of m) (mark a v (set_of l)) (counts_list m e) (mark_counts a v (set_of l) (counts_list l d)) (λ b. f b ∙ sym (mark_has a v (set_of l) b))

-- ---- the form

pub sound_few : (count : ℕ) (l : List Octets) → sound count l ≡ true → count ≤ 4
unfolding sound
sound_few count l h = leb-true count 4 (and_left (leb count 4) (distinct l) h)

pub sound_once : (count : ℕ) (l : List Octets) → sound count l ≡ true → distinct l ≡ true
unfolding sound
sound_once count l h = and_right (leb count 4) (distinct l) h

pub sound_both : (count : ℕ) (l : List Octets) → count ≤ 4 → distinct l ≡ true → sound count l ≡ true
unfolding sound
sound_both count l h d = rw (le-leb count 4 h, d)

pub sound_many : (count : ℕ) (l : List Octets) → 4 < count → sound count l ≡ false
unfolding sound
sound_many count l h = rw (lt-leb count 4 h)

pub sound_rest : (count : ℕ) (l : List Octets) → count ≤ 4 → sound count l ≡ distinct l
unfolding sound
sound_rest count l h = rw (le-leb count 4 h)

-- ---- no address

pub of_empty4 : {s : Set4} → s ≡ empty_set4 → (list4 s ≡ []) × (s.count ≡ 0)
of_empty4 e = (ap list4 e, ap (λ (s : Set4). s.count) e)

pub of_empty6 : {s : Set6} → s ≡ empty_set6 → (list6 s ≡ []) × (s.count ≡ 0)
of_empty6 e = (ap list6 e, ap (λ (s : Set6). s.count) e)

-- ---- an address more

pub joined_there : (a : Octets) (l : List Octets) → member a l ≡ true → joined a l ≡ l
unfolding joined
joined_there a l m = rw m

pub joined_full : (a : Octets) (l : List Octets) → member a l ≡ false → 4 ≤ length l → joined a l ≡ l
unfolding joined
joined_full a l m h = rw (m, le-ltb (length l) 4 h)

pub joined_new : (a : Octets) (l : List Octets) → member a l ≡ false → length l < 4 → joined a l ≡ l ++ (a ∷ [])
unfolding joined
joined_new a l m h = rw (m, lt-ltb (length l) 4 h)

-- where there is room, it is the set with the address
module _ (a : Octets) (l : List Octets) (d : distinct l ≡ true) where
  pub joined_once : distinct (joined a l) ≡ true
  unfolding joined
  joined_once = go (member a l) (ltb (length l) 4) refl
    where
      go : (v w : Bool) → member a l ≡ v → distinct (cond v l (cond w (l ++ (a ∷ [])) l)) ≡ true
      go true w e = d
      go false true e = distinct_last l a d e
      go false false e = d

  there : (b : Octets) → member a l ≡ true → member b l ≡ cond (same_octets a b) true (member b l)
  there b m = go (same_dec a b)
    where
      go : Dec (a ≡ b) → member b l ≡ cond (same_octets a b) true (member b l)
      go (yes r) = rw (same_yes a b r) (ap (λ (u : Octets). member u l) (sym r) ∙ m)
      go (no r) = rw (same_no a b r) refl

  pub joined_mark : (member a l || ltb (length l) 4) ≡ true → set_of (joined a l) ≡ mark a true (set_of l)
  joined_mark room = marked a true l (joined a l) d joined_once (λ b. go (member a l) refl b (ltb (length l) 4) refl room)
    where
      go : (v : Bool) → member a l ≡ v → (b : Octets) (w : Bool) → ltb (length l) 4 ≡ w → (v || w) ≡ true → member b (joined a l) ≡ cond (same_octets a b) true (member b l)
      go true e b w f r = ap (member b) (joined_there a l e) ∙ there b e
      go false e b true f r = ap (member b) (joined_new a l e (ltb-true (length l) 4 f)) ∙ member_last l a b
      go false e b false f r = absurd (true≢false (sym r))

  pub without_mark : set_of (without a l) ≡ mark a false (set_of l)
  without_mark = marked a false l (without a l) d (distinct_without a l d) (λ b. member_without a b l)
