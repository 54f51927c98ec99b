-- The laws of a list by its places, whatever an entry is about. Assumes nothing.
use mathlib.Core.Path.{◌≡◌, refl, ap, sym, ◌∙◌}
use mathlib.Core.Bool.{Bool, true, false, cond, ◌||◌}
use mathlib.Core.List.{List, [], ◌∷◌, ◌++◌, append_assoc, append-nil}
use Prim.Native.Nat.{ℕ, zero, suc, ◌+◌, ◌-◌, ◌≤◌, ◌<◌}
use native.Mathlib.Numerals.{add-one}
use native.Mathlib.Omega.{arith}
use lib.Dec.{ltb, leb-suc-suc}
use lib.ListN.{length, take, drop, get_or, set, replicate, length-append, length-drop, drop_of_length-le}
use lib.Seq.{set-append_seam, set_split, drop-cons, take_at, drop_at, length-take-le, get_or-drop, set-append_left}
use borrow.Author.Tests.{lt-ltb, le-ltb}
use Rattle.std.specs.List.{copy_within}
use Rattle.entries.specs.Entries.{Kind, one_of, no_later, filled}
use Rattle.entries.specs.Places.{place, insert_at, remove_at, replace_at, evict_place}
use Rattle.entries.proofs.EntryLaws.{one_evicts, one_nil}

module _ {E : Type 0} where
  pub get_d_any : (l : List E) (i : ℕ) (d e : E) → i < length l → get_or l i d ≡ get_or l i e
  get_d_any [] i d e h = absurd (omega arith)
  get_d_any (x ∷ l) zero d e h = refl
  get_d_any (x ∷ l) (suc i) d e h = get_d_any l i d e (omega arith)

  pub take_short : (n : ℕ) (l : List E) → length (take n l) ≤ n
  take_short zero l = omega arith
  take_short (suc n) [] = omega arith
  take_short (suc n) (x ∷ l) = omega (arith, take_short n l)

  -- so many from the front are no more than there are
  pub take_most : (n m : ℕ) (l : List E) → length l ≤ m → length (take n l) ≤ m
  take_most zero m l h = omega arith
  take_most (suc n) m [] h = omega arith
  take_most (suc n) zero (x ∷ l) h = absurd (omega arith)
  take_most (suc n) (suc m) (x ∷ l) h = omega (arith, take_most n m l (omega arith))

  pub removed_length : (k : ℕ) (l : List E) → k < length l → length (remove_at k l) + 1 ≡ length l
  removed_length k l h = omega (arith, length-append (take k l) (drop (suc k) l), length-take-le k l (omega arith), length-drop (suc k) l)

  pub inserted_length : (k : ℕ) (e : E) (l : List E) → k ≤ length l → length (insert_at k e l) ≡ length l + 1
  inserted_length k e l h = omega (arith, length-append (take k l) (e ∷ drop k l), length-take-le k l h, length-drop k l)

  pub replaced_length : (k : ℕ) (e : E) (l : List E) → k < length l → length (replace_at k e l) ≡ length l
  replaced_length k e l h = omega (arith, length-append (take k l) (e ∷ drop (suc k) l), length-take-le k l (omega arith), length-drop (suc k) l)

  -- an entry written is one put in and the one behind it taken out, or the one there taken out and one put in
  set_out : (n : ℕ) (x : E) (l : List E) → n < length l → remove_at (suc n) (insert_at n x l) ≡ set l n x
  set_out n x [] h = absurd (omega arith)
  set_out zero x (e ∷ l) h = refl
  set_out (suc n) x (e ∷ l) h = ap (λ (r : List E). e ∷ r) (set_out n x l (omega arith))

  set_in : (n : ℕ) (x : E) (l : List E) → n < length l → set l n x ≡ insert_at n x (remove_at n l)
  set_in n x [] h = absurd (omega arith)
  set_in zero x (e ∷ l) h = refl
  set_in (suc n) x (e ∷ l) h = ap (λ (r : List E). e ∷ r) (set_in n x l (omega arith))

  -- the entries behind a place moved up by one, as far as a place that is then written
  moved_first : (l : List E) (x : E) (n : ℕ) (e : E) → n ≤ length l → set (take n l ++ drop n (x ∷ l)) n e ≡ take n l ++ (e ∷ drop n l)
  moved_first l x zero e h = refl
  moved_first [] x (suc n) e h = absurd (omega arith)
  moved_first (y ∷ l) x (suc n) e h = ap (λ (r : List E). y ∷ r) (moved_first l y n e (omega arith))

  moved_up_by : (l : List E) (k n a : ℕ) (e : E) → a ≡ k + n → a < length l → set ((take k l ++ take n (drop (suc k) l)) ++ drop a l) a e ≡ insert_at a e (remove_at k l)
  moved_up_by [] k n a e q h = absurd (omega arith)
  moved_up_by (x ∷ l) zero n a e q h =
      let s : n ≡ a = omega arith in
      rw s (moved_first l x a e (omega arith))
  moved_up_by (x ∷ l) (suc k) n zero e q h = absurd (omega arith)
  moved_up_by (x ∷ l) (suc k) n (suc a) e q h = ap (λ (r : List E). x ∷ r) (moved_up_by l k n a e (omega arith) (omega arith))

  pub moved_up : (l : List E) (out at : ℕ) (e : E) → out ≤ at → at < length l → set (copy_within l (out + 1) (at + 1) out) at e ≡ insert_at at e (remove_at out l)
  moved_up l out at e h b =
      let s : out + (at + 1 - (out + 1)) ≡ at = omega arith in
      rw (s, add-one out) (moved_up_by l out (at + 1 - suc out) at e (omega arith) b)

  -- the entries from a place on moved back by one, and that place written
  moved_back_by : (l : List E) (k n a : ℕ) (e : E) → a ≡ k + n → a < length l → set ((take (suc k) l ++ take n (drop k l)) ++ drop (suc a) l) k e ≡ insert_at k e (remove_at a l)
  moved_back_by [] k n a e q h = absurd (omega arith)
  moved_back_by (x ∷ l) zero n a e q h =
      let s : n ≡ a = omega arith in
      rw s
  moved_back_by (x ∷ l) (suc k) n zero e q h = absurd (omega arith)
  moved_back_by (x ∷ l) (suc k) n (suc a) e q h = ap (λ (r : List E). x ∷ r) (moved_back_by l k n a e (omega arith) (omega arith))

  pub moved_back : (l : List E) (out at : ℕ) (e : E) → at ≤ out → out < length l → set (copy_within l at out (at + 1)) at e ≡ insert_at at e (remove_at out l)
  moved_back l out at e h b =
      let t : suc at + (out - at) ≡ suc out = omega arith in
      rw (add-one at, t) (moved_back_by l at (out - at) out e (omega arith) b)

  -- a list with more behind it
  removed_ahead : (k : ℕ) (l r : List E) → k < length l → remove_at k (l ++ r) ≡ remove_at k l ++ r
  removed_ahead k [] r h = absurd (omega arith)
  removed_ahead zero (e ∷ l) r h = refl
  removed_ahead (suc k) (e ∷ l) r h = ap (λ (t : List E). e ∷ t) (removed_ahead k l r (omega arith))

  inserted_ahead : (k : ℕ) (x : E) (l r : List E) → k ≤ length l → insert_at k x (l ++ r) ≡ insert_at k x l ++ r
  inserted_ahead zero x l r h = refl
  inserted_ahead (suc k) x [] r h = absurd (omega arith)
  inserted_ahead (suc k) x (e ∷ l) r h = ap (λ (t : List E). e ∷ t) (inserted_ahead k x l r (omega arith))

  removed_behind : (l r : List E) (z : E) (n : ℕ) → length l ≡ n → remove_at n (l ++ (z ∷ r)) ≡ l ++ r
  removed_behind [] r z zero h = refl
  removed_behind [] r z (suc n) h = absurd (omega arith)
  removed_behind (e ∷ l) r z zero h = absurd (omega arith)
  removed_behind (e ∷ l) r z (suc n) h = ap (λ (t : List E). e ∷ t) (removed_behind l r z n (omega arith))

  inserted_behind : (l r : List E) (x : E) (n : ℕ) → length l ≡ n → insert_at n x (l ++ r) ≡ l ++ (x ∷ r)
  inserted_behind l r x n h = rw (take_at l r n h, drop_at l r n h)

-- Lists in eight places, the places behind them filled with z.
module _ {E : Type 0} (z : E) where
  pub fill_length : (l : List E) → length l ≤ 8 → length (filled z l) ≡ 8
  fill_length l h = omega (arith, length-append l (replicate (8 - length l) z), lib.ListN.length-replicate (8 - length l) z)

  pub fill_full : (l : List E) → length l ≡ 8 → filled z l ≡ l
  fill_full l h =
      let e : 8 - length l ≡ 0 = omega arith in
      rw e (append-nil l)

  pub fill_push : (d : List E) (e : E) → length d < 8 → set (filled z d) (length d) e ≡ filled z (d ++ (e ∷ []))
  fill_push d e h =
      let s : 8 - length d ≡ suc (7 - length d) = omega arith in
      let t : 8 - length (d ++ (e ∷ [])) ≡ 7 - length d = simp length-append (omega arith) in
      rw (s, t, set-append_seam, append_assoc)

  -- one entry removed: the others move up, and the last one's place is filled
  pub fill_removed : (l : List E) (k n : ℕ) → length l ≡ n + 1 → length l ≤ 8 → k ≤ n → insert_at n z (remove_at k (filled z l)) ≡ filled z (remove_at k l)
  fill_removed l k n h b o =
      let r = replicate (8 - length l) z in
      let t : length (remove_at k l) ≡ n = omega (arith, removed_length k l (omega arith)) in
      let s : 8 - length (remove_at k l) ≡ suc (8 - length l) = omega arith in
      ap (insert_at n z) (removed_ahead k l r (omega arith)) ∙ inserted_behind (remove_at k l) r z n t ∙ rw s

  -- one entry inserted: those from there on move back, over the first filled place
  pub fill_inserted : (l : List E) (k n : ℕ) (x : E) → length l ≡ n → n < 8 → k ≤ n → insert_at k x (remove_at n (filled z l)) ≡ filled z (insert_at k x l)
  fill_inserted l k n x h b o =
      let r = replicate (8 - length (insert_at k x l)) z in
      let s : 8 - length l ≡ suc (8 - length (insert_at k x l)) = omega (arith, inserted_length k x l (omega arith)) in
      let c : remove_at n (filled z l) ≡ l ++ r = rw s (removed_behind l r z n h) in
      ap (insert_at k x) c ∙ inserted_ahead k x l r (omega arith)

  -- one place changed
  pub fill_set : (l : List E) (k : ℕ) (x : E) → k < length l → set (filled z l) k x ≡ filled z (replace_at k x l)
  fill_set l k x h = set-append_left l (replicate (8 - length l) z) k x h ∙ rw (set_split l k x h, ← replaced_length k x l h)

module _ {E : Type 0} (p : E → Bool) where
  pub place_le : (l : List E) → place p l ≤ length l
  unfolding place
  place_le [] = omega arith
  place_le (e ∷ l) = go (p e) (place_le l)
    where
      go : (b : Bool) → place p l ≤ length l → cond b 0 (suc (place p l)) ≤ suc (length l)
      go true h = omega arith
      go false h = omega arith

  -- an entry passes the test exactly if its place is one of the list's
  pub one_place : (l : List E) → one_of p l ≡ ltb (place p l) (length l)
  unfolding place one_of
  one_place [] = sym (le-ltb 0 0 (omega arith))
  one_place (e ∷ l) = go (p e) (one_place l)
    where
      go : (b : Bool) → one_of p l ≡ ltb (place p l) (length l) → (b || one_of p l) ≡ ltb (cond b 0 (suc (place p l))) (suc (length l))
      go true h = sym (lt-ltb 0 (suc (length l)) (omega arith))
      go false h = h ∙ sym (leb-suc-suc (suc (place p l)) (length l))

-- The search for the entry that is evicted goes from the back.
module _ {K E : Type 0} (kind : Kind K E) (l : List E) (d : E) where
  pub evict_last : (i : ℕ) → length l ≡ i + 1 → evict_place kind (drop i l) ≡ 0
  unfolding evict_place
  evict_last i h =
      let k : i < length l = omega arith in
      rw (drop-cons l i d k, drop_of_length-le l {i = suc i} (omega arith), one_nil)

  module _ (i best : ℕ) (p : 0 < i) (q : i < length l) (h : best ≡ i + evict_place kind (drop i l)) where
    down : evict_place kind (drop (i - 1) l) ≡ cond (no_later kind (get_or l best d) (get_or l (i - 1) d)) (suc (evict_place kind (drop i l))) 0
    unfolding evict_place
    down =
        let e : suc (i - 1) ≡ i = omega arith in
        let w : drop (i - 1) l ≡ get_or l (i - 1) d ∷ drop i l = drop-cons l (i - 1) d (omega arith) ∙ ap (λ (n : ℕ). get_or l (i - 1) d ∷ drop n l) e in
        let z : 0 < length (drop i l) = simp length-drop (omega arith) in
        let g : get_or (drop i l) (evict_place kind (drop i l)) d ≡ get_or l best d = get_or-drop i l (evict_place kind (drop i l)) d ∙ ap (λ (n : ℕ). get_or l n d) (sym h) in
        rw (w, one_evicts kind (drop i l) d (get_or l (i - 1) d) z, g)

    pub evict_keep : no_later kind (get_or l best d) (get_or l (i - 1) d) ≡ true → best ≡ i - 1 + evict_place kind (drop (i - 1) l)
    evict_keep t =
        let s = rw t at down in
        omega arith

    pub evict_take : no_later kind (get_or l best d) (get_or l (i - 1) d) ≡ false → i - 1 ≡ i - 1 + evict_place kind (drop (i - 1) l)
    evict_take t =
        let s = rw t at down in
        omega arith
