-- The laws of a struct that holds a list in its places, whatever its entries are about. Assumes nothing.
use mathlib.Core.Path.{◌≡◌, refl, ap, sym, ◌∙◌}
use mathlib.Core.List.{List, [], ◌∷◌, ◌++◌}
use Prim.Native.Nat.{ℕ, ◌+◌, ◌-◌, ◌≤◌, ◌<◌}
use native.Mathlib.Omega.{arith}
use lib.ListN.{length, take, get_or, set, replicate, length-append}
use lib.Seq.{take_at, get_or-take}
use borrow.Author.Tests.{lt-ltb, le-leb}
use Rattle.entries.specs.Entries.{places, filled}
use Rattle.entries.specs.Places.{Holder, InPlaces, held_in, packed_in, insert_at, remove_at, replace_at, counting, exchanged, without, inserted_in}
use Rattle.entries.proofs.PlaceLaws.{fill_length, fill_full, fill_push, fill_set, fill_removed, fill_inserted, removed_length, inserted_length, replaced_length, get_d_any}

module _ {E R L : Type 0} (h : Holder E R L) where
  pub packed_held : (r : R) (d : List E) → held_in h (packed_in h r d) ≡ d
  packed_held r d =
      ap (λ (n : ℕ). take n (h.entries (packed_in h r d))) (h.count_made (filled h.blank d) (length d) r)
      ∙ ap (take (length d)) (h.entries_made (filled h.blank d) (length d) r)
      ∙ take_at d (replicate (8 - length d) h.blank) (length d) refl

  -- what is known of a list that is packed
  module _ {m : L} (r : R) (d : List E) (q : m ≡ packed_in h r d) where
    pub of_rest : h.rest m ≡ r
    of_rest = ap h.rest q ∙ h.rest_made (filled h.blank d) (length d) r

    pub of_count : h.count m ≡ length d
    of_count = ap h.count q ∙ h.count_made (filled h.blank d) (length d) r

    pub of_held : held_in h m ≡ d
    of_held = ap (held_in h) q ∙ packed_held r d

    pub of_entries : h.entries m ≡ filled h.blank d
    of_entries = ap h.entries q ∙ h.entries_made (filled h.blank d) (length d) r

    pub in_places : length d ≤ places → InPlaces h m
    in_places b = record { within = omega (arith, of_count); packs = q ∙ rw (of_rest, of_held) }

  -- two structs are one when their three parts are
  pub same_list : {l m : L} → h.entries l ≡ h.entries m → h.count l ≡ h.count m → h.rest l ≡ h.rest m → l ≡ m
  same_list {l} {m} e n k = sym (h.whole l) ∙ rw (e, n, k) (h.whole m)

  -- a struct has its list packed when its three parts are
  pub packs : (m : L) (r : R) (d : List E) → h.entries m ≡ filled h.blank d → h.count m ≡ length d → h.rest m ≡ r → m ≡ packed_in h r d
  packs m r d e n k = sym (h.whole m) ∙ rw (e, n, k)

  -- parts that are those of a packed list make one
  pub packs_made : (l : List E) (n : ℕ) (r : R) (d : List E) → l ≡ filled h.blank d → n ≡ length d → h.made l n r ≡ packed_in h r d
  packs_made l n r d e k = rw (e, k)

  pub push_packed : (r : R) (d : List E) (s : L) (e : E) → s ≡ packed_in h r d → length d < places
      → h.made (set (h.entries s) (h.count s) e) (h.count s + 1) (h.rest s) ≡ packed_in h r (d ++ (e ∷ []))
  push_packed r d s e q k =
      rw (of_rest r d q)
      (packs_made (set (h.entries s) (h.count s) e) (h.count s + 1) r (d ++ (e ∷ []))
      (rw (of_entries r d q, of_count r d q) (fill_push h.blank d e k))
      (omega (arith, of_count r d q, length-append d (e ∷ []))))

  module _ {l : L} (p : InPlaces h l) where
    pub held_length : length (held_in h l) ≡ h.count l
    held_length = sym (of_count (h.rest l) (held_in h l) p.packs)

    pub held_fill : h.entries l ≡ filled h.blank (held_in h l)
    held_fill = of_entries (h.rest l) (held_in h l) p.packs

    pub full_length : length (h.entries l) ≡ places
    full_length = ap length held_fill ∙ fill_length h.blank (held_in h l) (omega (arith, held_length, p.within))

    pub held_full : places ≤ h.count l → h.entries l ≡ held_in h l
    held_full f = held_fill ∙ fill_full h.blank (held_in h l) (omega (arith, held_length, p.within))

    pub set_packed : (k : ℕ) (e : E) → k < h.count l → h.made (set (h.entries l) k e) (h.count l) (h.rest l) ≡ packed_in h (h.rest l) (replace_at k e (held_in h l))
    set_packed k e o =
        packs_made (set (h.entries l) k e) (h.count l) (h.rest l) (replace_at k e (held_in h l))
        (ap (λ (x : List E). set x k e) held_fill ∙ fill_set h.blank (held_in h l) k e (omega (arith, held_length)))
        (omega (arith, held_length, replaced_length k e (held_in h l) (omega (arith, held_length))))

    -- the struct with another count and its entries moved
    counted : (n : ℕ) (x : List E) → counting h n (h.made x (h.count l) (h.rest l)) ≡ h.made x n (h.rest l)
    counted n x =
        let m = h.made x (h.count l) (h.rest l) in
        ap (λ (y : List E). h.made y n (h.rest m)) (h.entries_made x (h.count l) (h.rest l)) ∙ ap (h.made x n) (h.rest_made x (h.count l) (h.rest l))

    -- what a list in its places holds with an entry less, one more, and one for another
    pub without_packed : (k : ℕ) → k < h.count l → without h k l ≡ packed_in h (h.rest l) (remove_at k (held_in h l))
    without_packed k o =
        rw (le-leb (h.count l) places p.within, lt-ltb k (h.count l) o)
        (counted (h.count l - 1) (insert_at (h.count l - 1) h.blank (remove_at k (h.entries l)))
        ∙ packs_made (insert_at (h.count l - 1) h.blank (remove_at k (h.entries l))) (h.count l - 1) (h.rest l) (remove_at k (held_in h l))
        (ap (λ (x : List E). insert_at (h.count l - 1) h.blank (remove_at k x)) held_fill
        ∙ fill_removed h.blank (held_in h l) k (h.count l - 1) (omega (arith, held_length)) (omega (arith, held_length, p.within)) (omega arith))
        (omega (arith, held_length, removed_length k (held_in h l) (omega (arith, held_length)))))

    pub inserted_packed : (k : ℕ) (e : E) → h.count l < places → k ≤ h.count l → inserted_in h k e l ≡ packed_in h (h.rest l) (insert_at k e (held_in h l))
    inserted_packed k e b o =
        rw (lt-ltb (h.count l) places b, le-leb k (h.count l) o)
        (counted (h.count l + 1) (insert_at k e (remove_at (h.count l) (h.entries l)))
        ∙ packs_made (insert_at k e (remove_at (h.count l) (h.entries l))) (h.count l + 1) (h.rest l) (insert_at k e (held_in h l))
        (ap (λ (x : List E). insert_at k e (remove_at (h.count l) x)) held_fill ∙ fill_inserted h.blank (held_in h l) k (h.count l) e held_length b o)
        (omega (arith, held_length, inserted_length k e (held_in h l) (omega (arith, held_length)))))

    pub exchanged_packed : (out at : ℕ) (e : E) → places ≤ h.count l → out < places → at < places → exchanged h out at e l ≡ packed_in h (h.rest l) (insert_at at e (remove_at out (held_in h l)))
    exchanged_packed out at e f o k =
        let n : length (held_in h l) ≡ places = omega (arith, held_length, p.within) in
        let r : length (remove_at out (held_in h l)) + 1 ≡ places = omega (arith, removed_length out (held_in h l) (omega arith)) in
        let w : length (insert_at at e (remove_at out (held_in h l))) ≡ places = omega (arith, inserted_length at e (remove_at out (held_in h l)) (omega arith)) in
        rw (lt-ltb out places o, lt-ltb at places k)
        (packs_made (insert_at at e (remove_at out (h.entries l))) (h.count l) (h.rest l) (insert_at at e (remove_at out (held_in h l)))
        (ap (λ (x : List E). insert_at at e (remove_at out x)) (held_full f) ∙ sym (fill_full h.blank (insert_at at e (remove_at out (held_in h l))) w))
        (omega (arith, held_length)))

  -- what the code reads from a place that is held
  pub held_at : (l : L) (k : ℕ) (d : E) → k < h.count l → h.count l ≤ length (h.entries l) → get_or (h.entries l) k d ≡ get_or (held_in h l) k h.blank
  held_at l k d o n = get_d_any (h.entries l) k d h.blank (omega arith) ∙ sym (get_or-take (h.count l) (h.entries l) k h.blank o)
