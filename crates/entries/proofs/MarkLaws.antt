-- The laws of a list of which an option inserted the first entries. Assumes nothing.
use mathlib.Core.Path.{◌≡◌, refl, ap, sym, ◌∙◌}
use mathlib.Core.Bool.{Bool, true, false, cond, ◌||◌}
use mathlib.Core.List.{List, [], ◌∷◌, map, foldl}
use Prim.Native.Nat.{ℕ, zero, suc, ◌+◌, ◌-◌, ◌≤◌, ◌<◌}
use native.Mathlib.Omega.{arith}
use lib.Dec.{ltb}
use lib.ListN.{length, get_or, length-map}
use borrow.Author.Tests.{lt-ltb, le-ltb, ltb-true, ltb-false}
use Rattle.entries.specs.Entries.{Kind, Marked, places, one_of, is_about, is_held, removed, renewed, evicted, roomed, inserted, unmarked, marking, named, named_all, no_later}
use Rattle.entries.specs.declared.Moments.{Moments}
use Rattle.entries.specs.Places.{place, insert_at, remove_at, replace_at, evict_place, marked}
use Rattle.entries.proofs.EntryLaws.{cond_case, one_some}

-- the rules of a list, by places
module _ {K E : Type 0} (kind : Kind K E) where
  pub removed_at : (k : K) (l : List E) → removed kind k l ≡ remove_at (place (is_about kind k) l) l
  unfolding removed place
  removed_at k [] = refl
  removed_at k (e ∷ l) = go (is_about kind k e) (removed_at k l)
    where
      go : (b : Bool) → removed kind k l ≡ remove_at (place (is_about kind k) l) l
          → cond b l (e ∷ removed kind k l) ≡ remove_at (cond b 0 (suc (place (is_about kind k) l))) (e ∷ l)
      go true h = refl
      go false h = ap (λ (x : List E). e ∷ x) h

  pub removed_none : (k : K) (l : List E) → length l ≤ place (is_about kind k) l → removed kind k l ≡ l
  unfolding removed place
  removed_none k [] h = refl
  removed_none k (e ∷ l) h = go (is_about kind k e) h (removed_none k l)
    where
      go : (b : Bool) → suc (length l) ≤ cond b 0 (suc (place (is_about kind k) l)) → (length l ≤ place (is_about kind k) l → removed kind k l ≡ l)
          → cond b l (e ∷ removed kind k l) ≡ e ∷ l
      go true h i = absurd (omega arith)
      go false h i = ap (λ (x : List E). e ∷ x) (i (omega arith))

  pub removed_le : (k : K) (l : List E) → length (removed kind k l) ≤ length l
  unfolding removed
  removed_le k [] = omega arith
  removed_le k (e ∷ l) = cond_case (λ (m : List E). length m ≤ suc (length l)) (is_about kind k e) (λ _. omega arith) (λ _. omega (arith, removed_le k l))

  pub renewed_at : (k : K) (x : Moments) (d : E) (l : List E) → place (is_about kind k) l < length l
      → renewed kind k x l ≡ replace_at (place (is_about kind k) l) (kind.renew x (get_or l (place (is_about kind k) l) d)) l
  unfolding renewed place
  renewed_at k x d [] h = absurd (omega arith)
  renewed_at k x d (e ∷ l) h = go (is_about kind k e) h (renewed_at k x d l)
    where
      go : (b : Bool) → cond b 0 (suc (place (is_about kind k) l)) < suc (length l)
          → (place (is_about kind k) l < length l → renewed kind k x l ≡ replace_at (place (is_about kind k) l) (kind.renew x (get_or l (place (is_about kind k) l) d)) l)
          → cond b (kind.renew x e ∷ l) (e ∷ renewed kind k x l)
          ≡ replace_at (cond b 0 (suc (place (is_about kind k) l))) (kind.renew x (get_or (e ∷ l) (cond b 0 (suc (place (is_about kind k) l))) d)) (e ∷ l)
      go true h i = refl
      go false h i = ap (λ (y : List E). e ∷ y) (i (omega arith))

  pub renewed_length : (k : K) (x : Moments) (l : List E) → length (renewed kind k x l) ≡ length l
  unfolding renewed
  renewed_length k x [] = refl
  renewed_length k x (e ∷ l) = cond_case (λ (m : List E). length m ≡ suc (length l)) (is_about kind k e) (λ _. refl) (λ _. ap suc (renewed_length k x l))

  pub evicted_at : (l : List E) → evicted kind l ≡ remove_at (evict_place kind l) l
  unfolding evicted evict_place
  evicted_at [] = refl
  evicted_at (e ∷ l) = go (one_of (λ d. no_later kind d e) l) (evicted_at l)
    where
      go : (b : Bool) → evicted kind l ≡ remove_at (evict_place kind l) l
          → cond b (e ∷ evicted kind l) l ≡ remove_at (cond b (suc (evict_place kind l)) 0) (e ∷ l)
      go true h = ap (λ (x : List E). e ∷ x) h
      go false h = refl

  -- an eviction takes one entry
  pub evicted_length : (l : List E) → 0 < length l → length (evicted kind l) + 1 ≡ length l
  unfolding evicted
  evicted_length [] h = absurd (omega arith)
  evicted_length (e ∷ l) h =
      cond_case (λ (m : List E). length m + 1 ≡ suc (length l)) (one_of (λ d. no_later kind d e) l)
      (λ t. omega (arith, evicted_length l (one_some (λ d. no_later kind d e) l t)))
      (λ _. omega arith)

  pub roomed_yes : (l : List E) → length l < places → roomed kind l ≡ l
  unfolding roomed
  roomed_yes l h = rw (lt-ltb (length l) places h)

  pub roomed_no : (l : List E) → places ≤ length l → roomed kind l ≡ evicted kind l
  unfolding roomed
  roomed_no l h = rw (le-ltb (length l) places h)

  -- room is made
  pub roomed_length : (l : List E) → length l ≤ places → length (roomed kind l) < places
  unfolding roomed
  roomed_length l h =
      cond_case (λ (m : List E). length m < places) (ltb (length l) places)
      (λ t. ltb-true (length l) places t)
      (λ t. omega (arith, ltb-false (length l) places t, evicted_length l (omega (arith, ltb-false (length l) places t))))

module _ {E : Type 0} where
  pub marked_length : (n : ℕ) (l : List E) → length (marked n l) ≡ length l
  unfolding marked
  marked_length zero [] = refl
  marked_length zero (e ∷ l) = ap suc (marked_length zero l)
  marked_length (suc n) [] = refl
  marked_length (suc n) (e ∷ l) = ap suc (marked_length n l)

  pub marked_items : (n : ℕ) (l : List E) → map (λ m. m.item) (marked n l) ≡ l
  unfolding marked
  marked_items zero [] = refl
  marked_items zero (e ∷ l) = ap (λ (x : List E). e ∷ x) (marked_items zero l)
  marked_items (suc n) [] = refl
  marked_items (suc n) (e ∷ l) = ap (λ (x : List E). e ∷ x) (marked_items n l)

  pub marked_nil : (n : ℕ) → marked {E = E} n [] ≡ []
  unfolding marked
  marked_nil zero = refl
  marked_nil (suc n) = refl

  pub marked_none : (l : List E) → marked 0 l ≡ map unmarked l
  unfolding marked
  marked_none l = refl

  -- marks play no part in what holds of one entry
  pub one_marked : (p : E → Bool) (n : ℕ) (l : List E) → one_of (λ m. p m.item) (marked n l) ≡ one_of p l
  unfolding marked one_of
  one_marked p zero [] = refl
  one_marked p zero (e ∷ l) = ap (λ (b : Bool). p e || b) (one_marked p zero l)
  one_marked p (suc n) [] = refl
  one_marked p (suc n) (e ∷ l) = ap (λ (b : Bool). p e || b) (one_marked p n l)

  pub inserted_length : (m : Marked E) (l : List (Marked E)) → length (inserted m l) ≡ suc (length l)
  unfolding inserted
  inserted_length m [] = refl
  inserted_length m (d ∷ l) = cond_case (λ (r : List (Marked E)). length r ≡ suc (suc (length l))) d.own (λ _. ap suc (inserted_length m l)) (λ _. refl)

  pub inserted_marked : (e : E) (n : ℕ) (l : List E) → n ≤ length l → inserted (record { item = e; own = true }) (marked n l) ≡ marked (suc n) (insert_at n e l)
  unfolding marked inserted
  inserted_marked e zero [] h = refl
  inserted_marked e zero (d ∷ l) h = refl
  inserted_marked e (suc n) [] h = absurd (omega arith)
  inserted_marked e (suc n) (d ∷ l) h = ap (λ (x : List (Marked E)). record { item = d; own = true } ∷ x) (inserted_marked e n l (omega arith))

module _ {K E : Type 0} (kind : Kind K E) where
  pub renewed_marked : (k : K) (x : Moments) (n : ℕ) (l : List E) → renewed (marking kind) k x (marked n l) ≡ marked n (renewed kind k x l)
  unfolding marked renewed
  renewed_marked k x zero [] = refl
  renewed_marked k x zero (e ∷ l) = go (is_about kind k e) (renewed_marked k x zero l)
    where
      go : (b : Bool) → renewed (marking kind) k x (map unmarked l) ≡ map unmarked (renewed kind k x l)
          → cond b (unmarked (kind.renew x e) ∷ map unmarked l) (unmarked e ∷ renewed (marking kind) k x (map unmarked l))
          ≡ map unmarked (cond b (kind.renew x e ∷ l) (e ∷ renewed kind k x l))
      go true h = refl
      go false h = ap (λ (y : List (Marked E)). unmarked e ∷ y) h
  renewed_marked k x (suc n) [] = refl
  renewed_marked k x (suc n) (e ∷ l) = go (is_about kind k e) (renewed_marked k x n l)
    where
      go : (b : Bool) → renewed (marking kind) k x (marked n l) ≡ marked n (renewed kind k x l)
          → cond b (record { item = kind.renew x e; own = true } ∷ marked n l) (record { item = e; own = true } ∷ renewed (marking kind) k x (marked n l))
          ≡ marked (suc n) (cond b (kind.renew x e ∷ l) (e ∷ renewed kind k x l))
      go true h = refl
      go false h = ap (λ (y : List (Marked E)). record { item = e; own = true } ∷ y) h

  pub removed_unmarked : (k : K) (l : List E) → removed (marking kind) k (map unmarked l) ≡ map unmarked (removed kind k l)
  unfolding removed
  removed_unmarked k [] = refl
  removed_unmarked k (e ∷ l) = go (is_about kind k e) (removed_unmarked k l)
    where
      go : (b : Bool) → removed (marking kind) k (map unmarked l) ≡ map unmarked (removed kind k l)
          → cond b (map unmarked l) (unmarked e ∷ removed (marking kind) k (map unmarked l)) ≡ map unmarked (cond b l (e ∷ removed kind k l))
      go true h = refl
      go false h = ap (λ (y : List (Marked E)). unmarked e ∷ y) h

  pub named_withdraws : (x : Moments) (k : K) (l : List (Marked E)) → named kind true x l k ≡ removed (marking kind) k l
  unfolding named
  named_withdraws x k l = refl

  pub named_present : (x : Moments) (k : K) (l : List (Marked E)) → is_held (marking kind) k l ≡ true → named kind false x l k ≡ renewed (marking kind) k x l
  unfolding named
  named_present x k l h = rw h

  pub named_absent : (x : Moments) (k : K) (l : List (Marked E)) → is_held (marking kind) k l ≡ false → named kind false x l k ≡ inserted ((marking kind).entry k x) (roomed (marking kind) l)
  unfolding named
  named_absent x k l h = rw h

  evicted_unmarked : (l : List E) → evicted (marking kind) (map unmarked l) ≡ map unmarked (evicted kind l)
  unfolding evicted
  evicted_unmarked [] = refl
  evicted_unmarked (e ∷ l) =
      ap (λ (b : Bool). cond b (unmarked e ∷ evicted (marking kind) (map unmarked l)) (map unmarked l)) (one (λ d. no_later kind d e) l)
      ∙ go (one_of (λ d. no_later kind d e) l) (evicted_unmarked l)
    where
      one : (p : E → Bool) (l : List E) → one_of (λ m. p m.item) (map unmarked l) ≡ one_of p l
      one p l = ap (one_of (λ m. p m.item)) (sym (marked_none l)) ∙ one_marked p 0 l

      go : (b : Bool) → evicted (marking kind) (map unmarked l) ≡ map unmarked (evicted kind l)
          → cond b (unmarked e ∷ evicted (marking kind) (map unmarked l)) (map unmarked l) ≡ map unmarked (cond b (e ∷ evicted kind l) l)
      go true h = ap (λ (y : List (Marked E)). unmarked e ∷ y) h
      go false h = refl

  -- the entry that goes is one that this option inserted
  pub evicted_own : (n : ℕ) (l : List E) → evict_place kind l < n → evicted (marking kind) (marked n l) ≡ marked (n - 1) (remove_at (evict_place kind l) l)
  unfolding marked evicted evict_place
  evicted_own zero l h = absurd (omega arith)
  evicted_own (suc n) [] h = sym (marked_nil (suc n - 1))
  evicted_own (suc n) (e ∷ l) h =
      ap (λ (b : Bool). cond b (record { item = e; own = true } ∷ evicted (marking kind) (marked n l)) (marked n l)) (one_marked (λ d. no_later kind d e) n l)
      ∙ go (one_of (λ d. no_later kind d e) l) h (evicted_own n l)
    where
      go : (b : Bool) → cond b (suc (evict_place kind l)) 0 < suc n → (evict_place kind l < n → evicted (marking kind) (marked n l) ≡ marked (n - 1) (remove_at (evict_place kind l) l))
          → cond b (record { item = e; own = true } ∷ evicted (marking kind) (marked n l)) (marked n l) ≡ marked (suc n - 1) (remove_at (cond b (suc (evict_place kind l)) 0) (e ∷ l))
      go true h i =
          let q : suc n - 1 ≡ suc (n - 1) = omega arith in
          ap (λ (y : List (Marked E)). record { item = e; own = true } ∷ y) (i (omega arith)) ∙ ap (λ (m : ℕ). marked m (e ∷ remove_at (evict_place kind l) l)) (sym q)
      go false h i =
          let q : suc n - 1 ≡ n = omega arith in
          ap (λ (m : ℕ). marked m l) (sym q)

  -- or it is not
  pub evicted_other : (n : ℕ) (l : List E) → n ≤ evict_place kind l → evicted (marking kind) (marked n l) ≡ marked n (remove_at (evict_place kind l) l)
  unfolding marked evicted evict_place
  evicted_other zero l h = evicted_unmarked l ∙ ap (map unmarked) (evicted_at kind l)
  evicted_other (suc n) [] h = absurd (omega arith)
  evicted_other (suc n) (e ∷ l) h =
      ap (λ (b : Bool). cond b (record { item = e; own = true } ∷ evicted (marking kind) (marked n l)) (marked n l)) (one_marked (λ d. no_later kind d e) n l)
      ∙ go (one_of (λ d. no_later kind d e) l) h (evicted_other n l)
    where
      go : (b : Bool) → suc n ≤ cond b (suc (evict_place kind l)) 0 → (n ≤ evict_place kind l → evicted (marking kind) (marked n l) ≡ marked n (remove_at (evict_place kind l) l))
          → cond b (record { item = e; own = true } ∷ evicted (marking kind) (marked n l)) (marked n l) ≡ marked (suc n) (remove_at (cond b (suc (evict_place kind l)) 0) (e ∷ l))
      go true h i = ap (λ (y : List (Marked E)). record { item = e; own = true } ∷ y) (i (omega arith))
      go false h i = absurd (omega arith)

  -- an option that withdraws goes over the bare list
  pub withdrawn_all : (x : Moments) (keys : List K) (l : List E) → named_all kind true x keys l ≡ foldl (λ h k. removed kind k h) l keys
  unfolding named_all
  withdrawn_all x keys l = ap (map (λ m. m.item)) (go keys l) ∙ ap (map (λ m. m.item)) (sym (marked_none (foldl (λ h k. removed kind k h) l keys))) ∙ marked_items 0 (foldl (λ h k. removed kind k h) l keys)
    where
      go : (keys : List K) (l : List E) → foldl (named kind true x) (map unmarked l) keys ≡ map unmarked (foldl (λ h k. removed kind k h) l keys)
      go [] l = refl
      go (k ∷ keys) l = ap (λ (y : List (Marked E)). foldl (named kind true x) y keys) (named_withdraws x k (map unmarked l) ∙ removed_unmarked k l) ∙ go keys (removed kind k l)

  -- an option leaves at most eight entries
  pub named_fits : (w : Bool) (x : Moments) (l : List (Marked E)) (k : K) → length l ≤ places → length (named kind w x l k) ≤ places
  unfolding named
  named_fits w x l k h =
      cond_case (λ (m : List (Marked E)). length m ≤ places) w
      (λ _. omega (arith, removed_le (marking kind) k l))
      (λ _.
      cond_case (λ (m : List (Marked E)). length m ≤ places) (is_held (marking kind) k l)
      (λ _. omega (arith, renewed_length (marking kind) k x l))
      (λ _. omega (arith, inserted_length ((marking kind).entry k x) (roomed (marking kind) l), roomed_length (marking kind) l h)))

  pub all_fits : (w : Bool) (x : Moments) (keys : List K) (l : List E) → length l ≤ places → length (named_all kind w x keys l) ≤ places
  unfolding named_all
  all_fits w x keys l h = omega (arith, length-map (foldl (named kind w x) (map unmarked l) keys) (λ m. m.item), go keys (map unmarked l) (omega (arith, length-map l unmarked)))
    where
      go : (keys : List K) (l : List (Marked E)) → length l ≤ places → length (foldl (named kind w x) l keys) ≤ places
      go [] l h = h
      go (k ∷ keys) l h = go keys (named kind w x l k) (named_fits w x l k h)
