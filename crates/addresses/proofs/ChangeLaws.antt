-- The laws of an address more and an address less, in an array with a count: what the struct comes to, and its list. Assumes nothing.
use mathlib.Core.Path.{◌≡◌, refl, sym, ◌∙◌, ap, subst}
use mathlib.Core.Bool.{Bool, true, false, cond}
use mathlib.Core.List.{List, [], ◌∷◌, ◌++◌, map, map-append, append_assoc, append-nil}
use Prim.Native.Nat.{ℕ, ◌+◌, ◌≤◌, ◌<◌}
use native.Mathlib.Numerals.{add-one}
use native.Mathlib.Omega.{arith}
use lib.ListN.{length, get_or, set, take, drop, length-set, length-take, take-append-drop}
use lib.Seq.{get_or-take, length-take-le, take-suc-set, drop-set-lt, drop-drop}
use borrow.Author.Tests.{lt-ltb, le-ltb}
use borrow.Table.Steps.{cases}
use Rattle.octets.specs.Compare.{same_octets}
use Rattle.octets.specs.Count.{Octets, member, without}
use Rattle.addresses.specs.Addresses.{Counted, held, listed, added, Added, others, in_front, removed, Removed}
use Rattle.addresses.proofs.CountedLaws.{Four, Places, held_cons, held_end, count_length}
use Rattle.addresses.proofs.SetLaws.{joined_there, joined_full, joined_new}

-- ---- an address more

module _ {A : Type 0} (f : A → Octets) (a : A) (s : Counted A) where
  pub added_there : member (f a) (listed f s) ≡ true → Added f a s s
  unfolding added
  added_there m = record { set_is = rw m; list_is = sym (joined_there (f a) (listed f s) m); stays_few = λ h. h }

  module _ (four : Four s) (m : member (f a) (listed f s) ≡ false) where
    pub added_full : 4 ≤ s.count → Added f a s s
    unfolding added
    added_full h =
        record {
          set_is = rw (m, le-ltb s.count 4 h);
          list_is = sym (joined_full (f a) (listed f s) m (omega (arith, count_length f s four)));
          stays_few = λ k. k;
        }

    more : s.count < 4 → listed f (record { items = set s.items s.count a; count = s.count + 1 }) ≡ listed f s ++ (f a ∷ [])
    more h = rw (add-one, take-suc-set s.items s.count a (omega arith), map-append)

    pub added_new : s.count < 4 → Added f a s (record { items = set s.items s.count a; count = s.count + 1 })
    unfolding added
    added_new h =
        record {
          set_is = rw (m, lt-ltb s.count 4 h);
          list_is = more h ∙ sym (joined_new (f a) (listed f s) m (omega (arith, count_length f s four)));
          stays_few = λ k. omega arith;
        }

-- the same of a struct that a set comes to by two writes: of the address, and of the count
module _ {A : Type 0} (f : A → Octets) (a : A) (s : Counted A) (n : ℕ) (four : Four s) (held_n : n ≡ length (held s)) where
  pub join_full : n ≡ 4 → Added f a s s
  join_full h =
      let few : 4 ≤ s.count = omega (arith, length-take s.count s.items) in
      cases (member (f a) (listed f s)) (λ m. added_there f a s m) (λ m. added_full f a s four m few)

  pub join_new : (t r : Counted A) → member (f a) (listed f s) ≡ false → ¬ (n ≡ 4) → t ≡ record { items = set s.items n a; count = s.count } → r ≡ record { items = t.items; count = n + 1 } → Added f a s r
  join_new t r m h e k =
      let few : s.count < 4 = omega (arith, length-take s.count s.items) in
      let c : n ≡ s.count = omega (arith, length-take s.count s.items) in
      let whole : record { items = set s.items s.count a; count = s.count + 1 } ≡ r = sym (k ∙ (λ i. record { items = (e i).items; count = n + 1 }) ∙ (λ i. record { items = set s.items (c i) a; count = c i + 1 })) in
      subst (Added f a s) whole (added_new f a s four m few)

-- ---- an address less

others_list : {A : Type 0} (f : A → Octets) (a : Octets) (l : List A) → map f (others f a l) ≡ without a (map f l)
unfolding others without
others_list f a [] = refl
others_list f a (x ∷ l) = go (same_octets (f x) a) (others_list f a l)
  where
    go : (v : Bool) → map f (others f a l) ≡ without a (map f l) → map f (cond v (others f a l) (x ∷ others f a l)) ≡ cond v (without a (map f l)) (f x ∷ without a (map f l))
    go true h = h
    go false h = ap (λ (m : List Octets). f x ∷ m) h

-- up to place i, what stays stands in the first j places of the array that comes of it
pub record Removing {A : Type 0} (f : A → Octets) (a : Octets) (s : Counted A) (n : ℕ) (items : List A) (i j : ℕ) : Type 0 where
  pub places : Places s n
  pub size : length items ≡ 4
  pub within : i ≤ n
  pub order : j ≤ i
  pub front : take j items ++ others f a (drop i (held s)) ≡ others f a (held s)
  pub behind : drop j items ≡ drop j s.items

pub removing_start : {A : Type 0} {f : A → Octets} {a : Octets} {s : Counted A} {n : ℕ} → Places s n → Removing f a s n s.items 0 0
removing_start p = record { places = p; size = p.four; within = omega arith; order = omega arith; front = refl; behind = refl }

module _ {A : Type 0} {f : A → Octets} {a : Octets} {s : Counted A} {n : ℕ} {items : List A} {i j : ℕ} (l : Removing f a s n items i j) where
  pub removing_skip : (d : A) → i < n → same_octets (f (get_or s.items i d)) a ≡ true → Removing f a s n items (i + 1) j
  unfolding others
  removing_skip d h e =
      let q : others f a (drop i (held s)) ≡ others f a (drop (i + 1) (held s)) = ap (others f a) (held_cons s n l.places d i h) ∙ rw e in
      record {
        places = l.places;
        size = l.size;
        within = omega arith;
        order = omega arith;
        front = ap (λ (m : List A). take j items ++ m) (sym q) ∙ l.front;
        behind = l.behind;
      }

  pub removing_keep : (d : A) → i < n → same_octets (f (get_or s.items i d)) a ≡ false → Removing f a s n (set items j (get_or s.items i d)) (i + 1) (j + 1)
  unfolding others
  removing_keep d h e =
      let x = get_or s.items i d in
      let q : others f a (drop i (held s)) ≡ x ∷ others f a (drop (i + 1) (held s)) = ap (others f a) (held_cons s n l.places d i h) ∙ rw e in
      record {
        places = l.places;
        size = simp length-set l.size;
        within = omega arith;
        order = omega arith;
        front =
            rw (add-one j, take-suc-set items j x (omega arith), append_assoc)
            (ap (λ (m : List A). take j items ++ m) (sym q) ∙ l.front);
        behind = drop-set-lt (j + 1) items j x (omega arith) ∙ sym (drop-drop 1 j items) ∙ ap (drop 1) l.behind ∙ drop-drop 1 j s.items;
      }

-- at the end they are all there
pub removing_end : {A : Type 0} {f : A → Octets} (a : A) {s : Counted A} {n : ℕ} {items : List A} {i j : ℕ} → Removing f (f a) s n items i j → n ≤ i → Removed f a s (record { items = items; count = j })
unfolding others removed
removing_end {A} {f} a {s} {n} {items} {i} {j} l h =
    let kept = others f (f a) (held s) in
    let e : take j items ≡ kept = sym (append-nil (take j items)) ∙ ap (λ (m : List A). take j items ++ others f (f a) m) (sym (held_end s n l.places i h)) ∙ l.front in
    let k : j ≡ length kept = sym (length-take-le j items (omega arith)) ∙ ap length e in
    let whole : items ≡ (in_front kept s).items = sym (take-append-drop j items) ∙ (λ v. e v ++ l.behind v) ∙ ap (λ (m : ℕ). kept ++ drop m s.items) k in
    record {
      set_is = λ v. record { items = whole v; count = k v };
      list_is = ap (map f) e ∙ others_list f (f a) (held s);
      is_few = omega arith;
    }

-- the same of a loop over the addresses themselves, in a struct that is written to place by place: x is the address at place i
module _ {A : Type 0} {f : A → Octets} {a : Octets} {s : Counted A} {n i j : ℕ} (t u : Counted A) (k : ℕ) (x : A) (h : i < n) (at : x ≡ get_or (held s) i x) (l : Removing f a s n t.items i j) where
  place : get_or s.items i x ≡ x
  place = let p = l.places in sym (at ∙ get_or-take s.count s.items i x (omega arith))

  pub parting_skip : u ≡ t → k ≡ j → same_octets (f x) a ≡ true → Removing f a s n u.items (i + 1) k
  parting_skip e m q =
      let go : Removing f a s n t.items (i + 1) j = removing_skip l x h (ap (λ (y : A). same_octets (f y) a) place ∙ q) in
      subst (λ (y : ℕ). Removing f a s n u.items (i + 1) y) (sym m) (subst (λ (v : Counted A). Removing f a s n v.items (i + 1) j) (sym e) go)

  pub parting_keep : u ≡ record { items = set t.items j x; count = t.count } → k ≡ j + 1 → same_octets (f x) a ≡ false → Removing f a s n u.items (i + 1) k
  parting_keep e m q =
      let go : Removing f a s n (set t.items j (get_or s.items i x)) (i + 1) (j + 1) = removing_keep l x h (ap (λ (y : A). same_octets (f y) a) place ∙ q) in
      let w : u.items ≡ set t.items j (get_or s.items i x) = ap (λ (v : Counted A). v.items) e ∙ ap (λ (y : A). set t.items j y) (sym place) in
      subst (λ (y : ℕ). Removing f a s n u.items (i + 1) y) (sym m) (subst (λ (v : List A). Removing f a s n v (i + 1) (j + 1)) (sym w) go)

pub parting_end : {A : Type 0} {f : A → Octets} (a : A) {s : Counted A} (t r : Counted A) {n i j : ℕ} → Removing f (f a) s n t.items i j → n ≤ i → r ≡ record { items = t.items; count = j } → Removed f a s r
parting_end {f = f} a {s = s} t r l h e = subst (Removed f a s) (sym e) (removing_end a l h)
