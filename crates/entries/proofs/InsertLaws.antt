-- The laws of a list in its places while an option is applied, whatever its entries are about. Assumes nothing.
use mathlib.Core.Path.{◌≡◌, refl, ap, sym, ◌∙◌, subst}
use mathlib.Core.Bool.{false}
use mathlib.Core.List.{List}
use Prim.Native.Nat.{ℕ, ◌+◌, ◌-◌, ◌≤◌, ◌<◌}
use native.Mathlib.Numerals.{add-one}
use native.Mathlib.Omega.{arith}
use lib.Dec.{ltb}
use lib.ListN.{length, get_or}
use borrow.Author.Tests.{lt-ltb, le-ltb}
use Rattle.entries.specs.Entries.{Kind, Marked, places, is_about, is_held, removed, evicted, roomed, inserted, marking, named}
use Rattle.entries.specs.Places.{Holder, InPlaces, Ready, Holds, held_in, packed_in, marks, marked, place, insert_at, remove_at, replace_at, evict_place, exchanged, inserted_in}
use Rattle.entries.specs.declared.Moments.{Moments}
use Rattle.entries.proofs.EntryLaws.{evict_lt}
use Rattle.entries.proofs.PlaceLaws.{one_place, removed_length, inserted_length, replaced_length}
use Rattle.entries.proofs.MarkLaws.{marked_length, one_marked, inserted_marked, renewed_marked, removed_at, removed_none, removed_le, renewed_at, evicted_own, evicted_other, roomed_yes, roomed_no, roomed_length, named_present, named_absent}
use Rattle.entries.proofs.PackLaws.{packed_held, of_rest, of_count, of_held, in_places, held_length, held_full, inserted_packed, exchanged_packed}

module _ {K E R L : Type 0} (kind : Kind K E) (s : Holder E R L) where
  -- what a packed list holds, with its first n entries marked
  holding : (c : R) (d : List E) (n : ℕ) {m : L} (ms : List (Marked E)) → m ≡ packed_in s c d → length d ≤ places → n ≤ length d → marked n d ≡ ms → Holds s c ms m n
  holding c d n ms h b k e =
      record {
        ready = record { list = in_places s c d h b; among = omega (arith, of_count s c d h) };
        rested = of_rest s c d h;
        holds = ap (marked n) (of_held s c d h) ∙ e;
      }

  marks_length : (l : L) (own : ℕ) → Ready s l own → length (marks s l own) ≡ s.count l
  marks_length l own r = marked_length own (held_in s l) ∙ held_length s r.list

  room_left : (l : L) (own : ℕ) → Ready s l own → s.count l < places → Holds s (s.rest l) (roomed (marking kind) (marks s l own)) l own
  room_left l own r h = record { ready = r; rested = refl; holds = sym (roomed_yes (marking kind) (marks s l own) (omega (arith, marks_length l own r))) }

  -- the list with room for one more, and with an entry put in then
  abbrev pub with_room : L → ℕ → List (Marked E)
  with_room l own = roomed (marking kind) (marks s l own)

  abbrev pub with_entry : L → ℕ → K → Moments → List (Marked E)
  with_entry l own a x = inserted ((marking kind).entry a x) (with_room l own)

  -- room was made, and an entry is put in
  module _ (c : R) (l t : L) (own n : ℕ) (r : Ready s l own) (h : Holds s c (with_room l own) t n) where
    room_made : s.count t < places
    room_made = omega (arith, marks_length t n h.ready, ap length h.holds, roomed_length (marking kind) (marks s l own) (omega (arith, marks_length l own r, r.list.within)))

    put_in : (a : K) (x : Moments) {m : L} → m ≡ packed_in s (s.rest t) (insert_at n (kind.entry a x) (held_in s t)) → Holds s c (with_entry l own a x) m (n + 1)
    put_in a x e =
        let d = insert_at n (kind.entry a x) (held_in s t) in
        let k : length d ≡ length (held_in s t) + 1 = inserted_length n (kind.entry a x) (held_in s t) (omega (arith, held_length s h.ready.list, h.ready.among)) in
        holding c d (n + 1) (with_entry l own a x)
        (e ∙ ap (λ (y : R). packed_in s y d) h.rested)
        (omega (arith, k, held_length s h.ready.list, room_made))
        (omega (arith, k, held_length s h.ready.list, h.ready.among))
        (ap (λ (j : ℕ). marked j d) (add-one n)
        ∙ sym (inserted_marked (kind.entry a x) n (held_in s t) (omega (arith, held_length s h.ready.list, h.ready.among)))
        ∙ ap (inserted ((marking kind).entry a x)) h.holds)

  -- an entry put in where there is room
  pub put_in_room : (l : L) (own : ℕ) (r : Ready s l own) (a : K) (x : Moments) {m : L} → s.count l < places → m ≡ inserted_in s own (kind.entry a x) l → Holds s (s.rest l) (with_entry l own a x) m (own + 1)
  put_in_room l own r a x h e = put_in (s.rest l) l l own own r (room_left l own r h) a x (e ∙ inserted_packed s r.list own (kind.entry a x) h r.among)

  -- an entry put in for the one that is evicted, at place k of a full list
  module _ (l : L) (own : ℕ) (r : Ready s l own) (k : ℕ) (full : places ≤ s.count l) (e : k ≡ evict_place kind (s.entries l)) where
    evicts : k ≡ evict_place kind (held_in s l)
    evicts = e ∙ ap (evict_place kind) (held_full s r.list full)

    within : k < length (held_in s l)
    within = omega (arith, evicts, held_length s r.list, evict_lt kind (held_in s l) (omega (arith, held_length s r.list)))

    count : length (remove_at k (held_in s l)) + 1 ≡ length (held_in s l)
    count = removed_length k (held_in s l) within

    -- the list without it
    abbrev others : L
    others = packed_in s (s.rest l) (remove_at k (held_in s l))

    -- the first n of it are the option's own
    roomed_others : (n : ℕ) → n ≤ length (remove_at k (held_in s l)) → marked n (remove_at k (held_in s l)) ≡ evicted (marking kind) (marks s l own) → Holds s (s.rest l) (with_room l own) others n
    roomed_others n h q =
        holding (s.rest l) (remove_at k (held_in s l)) n (with_room l own) refl
        (omega (arith, count, held_length s r.list, r.list.within))
        h
        (q ∙ sym (roomed_no (marking kind) (marks s l own) (omega (arith, marks_length l own r))))

    put_for : (n : ℕ) (a : K) (x : Moments) {m : L} → n < places → Holds s (s.rest l) (with_room l own) others n → m ≡ exchanged s k n (kind.entry a x) l → Holds s (s.rest l) (with_entry l own a x) m (n + 1)
    put_for n a x h g q =
        let d = remove_at k (held_in s l) in
        put_in (s.rest l) l others own n r g a x
        (rw (of_rest s {m = others} (s.rest l) d refl, packed_held s (s.rest l) d)
        (q ∙ exchanged_packed s r.list k n (kind.entry a x) full (omega (arith, within, held_length s r.list, r.list.within)) h))

    -- one of the option's own goes
    pub put_for_own : (a : K) (x : Moments) {m : L} → k < own → m ≡ exchanged s k (own - 1) (kind.entry a x) l → Holds s (s.rest l) (with_entry l own a x) m own
    put_for_own a x {m} h q =
        let n : own - 1 + 1 ≡ own = omega arith in
        let g = ap (λ (i : ℕ). marked (own - 1) (remove_at i (held_in s l))) evicts ∙ sym (evicted_own kind own (held_in s l) (omega (arith, evicts))) in
        subst (Holds s (s.rest l) (with_entry l own a x) m) n
        (put_for (own - 1) a x (omega (arith, r.among, r.list.within)) (roomed_others (own - 1) (omega (arith, count, held_length s r.list, r.among)) g) q)

    -- or another
    pub put_for_other : (a : K) (x : Moments) {m : L} → own ≤ k → m ≡ exchanged s k own (kind.entry a x) l → Holds s (s.rest l) (with_entry l own a x) m (own + 1)
    put_for_other a x h q =
        let g = ap (λ (i : ℕ). marked own (remove_at i (held_in s l))) evicts ∙ sym (evicted_other kind own (held_in s l) (omega (arith, evicts))) in
        put_for own a x (omega (arith, within, held_length s r.list, r.list.within)) (roomed_others own (omega (arith, count, within)) g) q

  -- a key that was looked for
  module _ (l : L) (own : ℕ) (r : Ready s l own) (a : K) (x : Moments) (k : ℕ) (e : k ≡ place (is_about kind a) (held_in s l)) where
    is_held_lem : is_held (marking kind) a (marks s l own) ≡ ltb (place (is_about kind a) (held_in s l)) (length (held_in s l))
    is_held_lem = one_marked (is_about kind a) own (held_in s l) ∙ one_place (is_about kind a) (held_in s l)

    pub found : {m : L} → k < s.count l → m ≡ packed_in s (s.rest l) (replace_at k (kind.renew x (get_or (held_in s l) k s.blank)) (held_in s l)) → Holds s (s.rest l) (named kind false x (marks s l own) a) m own
    found h q =
        let w : place (is_about kind a) (held_in s l) < length (held_in s l) = omega (arith, e, held_length s r.list) in
        let f = kind.renew x (get_or (held_in s l) k s.blank) in
        let d = replace_at k f (held_in s l) in
        let n : length d ≡ length (held_in s l) = replaced_length k f (held_in s l) (omega (arith, held_length s r.list)) in
        holding (s.rest l) d own (named kind false x (marks s l own) a) q
        (omega (arith, n, held_length s r.list, r.list.within))
        (omega (arith, n, held_length s r.list, r.among))
        (ap (λ (j : ℕ). marked own (replace_at j (kind.renew x (get_or (held_in s l) j s.blank)) (held_in s l))) e
        ∙ ap (marked own) (sym (renewed_at kind a x s.blank (held_in s l) w))
        ∙ sym (renewed_marked kind a x own (held_in s l))
        ∙ sym (named_present kind x a (marks s l own) (is_held_lem ∙ lt-ltb _ _ w)))

    pub missing : {m : L} {n : ℕ} → s.count l ≤ k → Holds s (s.rest l) (with_entry l own a x) m n → Holds s (s.rest l) (named kind false x (marks s l own) a) m n
    missing h q =
        let w : length (held_in s l) ≤ place (is_about kind a) (held_in s l) = omega (arith, e, held_length s r.list) in
        record { ready = q.ready; rested = q.rested; holds = q.holds ∙ sym (named_absent kind x a (marks s l own) (is_held_lem ∙ le-ltb _ _ w)) }

  module _ (l : L) (i : InPlaces s l) (a : K) (k : ℕ) (e : k ≡ place (is_about kind a) (held_in s l)) where
    pub withdrawn : {m : L} → m ≡ packed_in s (s.rest l) (remove_at k (held_in s l)) → m ≡ packed_in s (s.rest l) (removed kind a (held_in s l))
    withdrawn q = q ∙ ap (packed_in s (s.rest l)) (ap (λ (n : ℕ). remove_at n (held_in s l)) e ∙ sym (removed_at kind a (held_in s l)))

    pub nothing_to_withdraw : s.count l ≤ k → l ≡ packed_in s (s.rest l) (removed kind a (held_in s l))
    nothing_to_withdraw h = i.packs ∙ ap (packed_in s (s.rest l)) (sym (removed_none kind a (held_in s l) (omega (arith, e, held_length s i))))

  -- one key withdrawn more
  module _ {m r : L} (i : InPlaces s m) (a : K) (e : r ≡ packed_in s (s.rest m) (removed kind a (held_in s m))) where
    pub withdrawn_places : InPlaces s r
    withdrawn_places = in_places s (s.rest m) (removed kind a (held_in s m)) e (omega (arith, removed_le kind a (held_in s m), held_length s i, i.within))

    pub withdrawn_held : held_in s r ≡ removed kind a (held_in s m)
    withdrawn_held = of_held s (s.rest m) (removed kind a (held_in s m)) e

    pub withdrawn_rest : s.rest r ≡ s.rest m
    withdrawn_rest = of_rest s (s.rest m) (removed kind a (held_in s m)) e
