-- The laws of one option's keys: what they leave sound, absent and as it was. Assumes nothing.
use mathlib.Core.Path.{◌≡◌, refl, ap, sym, ◌∙◌}
use mathlib.Core.Bool.{Bool, true, false, not, cond, ◌&&◌, ◌||◌, false≢true}
use mathlib.Core.List.{List, [], ◌∷◌, map, foldl}
use borrow.Author.Tests.{not-true}
use Rattle.octets.proofs.BoolLaws.{and_both, and_left, and_right, or_left, or_right}
use Rattle.entries.specs.Entries.{Kind, Marked, keep, one_of, each, is_about, is_held, distinct, removed, renewed, evicted, roomed, unmarked, items, inserted, marking, named, named_all, no_later}
use Rattle.entries.specs.declared.Moments.{Moments}
use Rattle.entries.proofs.EntryLaws.{cond_case}
use Rattle.entries.proofs.SoundLaws.{Lawful, lawful_marking, part_each, part_none, part_distinct, removed_part, roomed_part, renewed_held, renewed_distinct, renewed_each, inserted_one, inserted_each}

-- Marks play no part in what holds of the entries.
module _ {E : Type 0} where
  pub items_one : (p : E → Bool) (l : List (Marked E)) → one_of p (items l) ≡ one_of (λ m. p m.item) l
  unfolding one_of
  items_one p [] = refl
  items_one p (m ∷ l) = ap (λ (b : Bool). p m.item || b) (items_one p l)

  pub items_each : (p : E → Bool) (l : List (Marked E)) → each p (items l) ≡ each (λ m. p m.item) l
  unfolding each
  items_each p [] = refl
  items_each p (m ∷ l) = ap (λ (b : Bool). p m.item && b) (items_each p l)

  pub unmarked_items : (l : List E) → items (map unmarked l) ≡ l
  unmarked_items [] = refl
  unmarked_items (e ∷ l) = ap (λ (r : List E). e ∷ r) (unmarked_items l)

  pub items_keep : (p : E → Bool) (l : List (Marked E)) → keep p (items l) ≡ items (keep (λ m. p m.item) l)
  unfolding keep
  items_keep p [] = refl
  items_keep p (m ∷ l) = go (p m.item) (items_keep p l)
    where
      go : (b : Bool) → keep p (items l) ≡ items (keep (λ n. p n.item) l)
          → cond b (m.item ∷ keep p (items l)) (keep p (items l)) ≡ items (cond b (m ∷ keep (λ n. p n.item) l) (keep (λ n. p n.item) l))
      go true h = ap (λ (r : List E). m.item ∷ r) h
      go false h = h

module _ {K E : Type 0} (kind : Kind K E) where
  pub items_distinct : (l : List (Marked E)) → distinct kind (items l) ≡ distinct (marking kind) l
  unfolding distinct
  items_distinct [] = refl
  items_distinct (m ∷ l) = rw (items_one (is_about kind (kind.about m.item)) l, items_distinct l)

  pub items_evicted : (l : List (Marked E)) → items (evicted (marking kind) l) ≡ evicted kind (items l)
  unfolding evicted
  items_evicted [] = refl
  items_evicted (m ∷ l) =
      go (one_of (λ d. no_later kind d.item m.item) l) (items_evicted l)
      ∙ ap (λ (b : Bool). cond b (m.item ∷ evicted kind (items l)) (items l)) (sym (items_one (λ d. no_later kind d m.item) l))
    where
      go : (b : Bool) → items (evicted (marking kind) l) ≡ evicted kind (items l)
          → items (cond b (m ∷ evicted (marking kind) l) l) ≡ cond b (m.item ∷ evicted kind (items l)) (items l)
      go true h = ap (λ (r : List E). m.item ∷ r) h
      go false h = refl

-- Sound lists stay sound: no key twice, and each entry passes a test that what is new passes.
module _ {K E : Type 0} (kind : Kind K E) (w : Lawful kind) where
  pub inserted_distinct : (k : K) (x : Moments) (l : List (Marked E)) → is_held (marking kind) k l ≡ false → distinct (marking kind) l ≡ true → distinct (marking kind) (inserted ((marking kind).entry k x) l) ≡ true
  unfolding inserted distinct one_of
  inserted_distinct k x [] n h = refl
  inserted_distinct k x (d ∷ l) n h =
      let m = (marking kind).entry k x in
      let a : kind.same (kind.about d.item) k ≡ false = w.turned (kind.about d.item) k ∙ or_left (is_about (marking kind) k d) (is_held (marking kind) k l) n in
      let b : is_held (marking kind) (kind.about d.item) l ≡ false = not-true _ (and_left (not (is_held (marking kind) (kind.about d.item) l)) (distinct (marking kind) l) h) in
      let f : is_held (marking kind) (kind.about d.item) (inserted m l) ≡ false = inserted_one (is_about (marking kind) (kind.about d.item)) m l ∙ ap (λ (t : Bool). t || is_held (marking kind) (kind.about d.item) l) (ap (kind.same (kind.about d.item)) (w.made k x) ∙ a) ∙ b in
      let g : is_held (marking kind) (kind.about (kind.entry k x)) (d ∷ l) ≡ false = ap (λ (i : K). is_held (marking kind) i (d ∷ l)) (w.made k x) ∙ n in
      cond_case (λ (r : List (Marked E)). distinct (marking kind) r ≡ true) d.own
      (λ _. and_both _ _ (ap not f) (inserted_distinct k x l (or_right (is_about (marking kind) k d) (is_held (marking kind) k l) n) (and_right (not (is_held (marking kind) (kind.about d.item) l)) (distinct (marking kind) l) h)))
      (λ _. and_both _ _ (ap not g) h)

  pub named_distinct : (b : Bool) (x : Moments) (l : List (Marked E)) (k : K) → distinct (marking kind) l ≡ true → distinct (marking kind) (named kind b x l k) ≡ true
  unfolding named
  named_distinct b x l k h =
      cond_case (λ (r : List (Marked E)). distinct (marking kind) r ≡ true) b
      (λ _. part_distinct (marking kind) (removed_part (marking kind) k l) h)
      (λ _.
      cond_case (λ (r : List (Marked E)). distinct (marking kind) r ≡ true) (is_held (marking kind) k l)
      (λ _. renewed_distinct (marking kind) (lawful_marking kind w) k x l ∙ h)
      (λ n. inserted_distinct k x (roomed (marking kind) l) (part_none (is_about (marking kind) k) (roomed_part (marking kind) l) n) (part_distinct (marking kind) (roomed_part (marking kind) l) h)))

  pub all_distinct : (b : Bool) (x : Moments) (keys : List K) (l : List E) → distinct kind l ≡ true → distinct kind (named_all kind b x keys l) ≡ true
  unfolding named_all
  all_distinct b x keys l h = items_distinct kind _ ∙ go keys (map unmarked l) (sym (items_distinct kind (map unmarked l)) ∙ ap (distinct kind) (unmarked_items l) ∙ h)
    where
      go : (keys : List K) (l : List (Marked E)) → distinct (marking kind) l ≡ true → distinct (marking kind) (foldl (named kind b x) l keys) ≡ true
      go [] l h = h
      go (k ∷ keys) l h = go keys (named kind b x l k) (named_distinct b x l k h)

module _ {K E : Type 0} (kind : Kind K E) (p : E → Bool) (x : Moments) (made : (k : K) → p (kind.entry k x) ≡ true) (kept : (e : E) → p (kind.renew x e) ≡ true) where
  pub named_each : (b : Bool) (l : List (Marked E)) (k : K) → each (λ m. p m.item) l ≡ true → each (λ m. p m.item) (named kind b x l k) ≡ true
  unfolding named
  named_each b l k h =
      cond_case (λ (r : List (Marked E)). each (λ m. p m.item) r ≡ true) b
      (λ _. part_each (λ m. p m.item) (removed_part (marking kind) k l) h)
      (λ _.
      cond_case (λ (r : List (Marked E)). each (λ m. p m.item) r ≡ true) (is_held (marking kind) k l)
      (λ _. renewed_each (marking kind) (λ m. p m.item) k x l (λ m. kept m.item) h)
      (λ _. inserted_each (λ m. p m.item) ((marking kind).entry k x) (roomed (marking kind) l) (made k) (part_each (λ m. p m.item) (roomed_part (marking kind) l) h)))

  pub all_each : (b : Bool) (keys : List K) (l : List E) → each p l ≡ true → each p (named_all kind b x keys l) ≡ true
  unfolding named_all
  all_each b keys l h = items_each p _ ∙ go keys (map unmarked l) (sym (items_each p (map unmarked l)) ∙ ap (each p) (unmarked_items l) ∙ h)
    where
      go : (keys : List K) (l : List (Marked E)) → each (λ m. p m.item) l ≡ true → each (λ m. p m.item) (foldl (named kind b x) l keys) ≡ true
      go [] l h = h
      go (k ∷ keys) l h = go keys (named kind b x l k) (named_each b l k h)

-- A key that was withdrawn is absent, and stays so until it is named again.
module _ {K E : Type 0} (kind : Kind K E) (w : Lawful kind) where
  pub held_alike : (i j : K) → kind.same i j ≡ true → (l : List E) → is_held kind i l ≡ is_held kind j l
  unfolding one_of
  held_alike i j h [] = refl
  held_alike i j h (e ∷ l) = rw (w.along i j (kind.about e) h, held_alike i j h l)

  pub removed_absent : (k : K) (l : List E) → distinct kind l ≡ true → is_held kind k (removed kind k l) ≡ false
  unfolding removed distinct one_of
  removed_absent k [] h = refl
  removed_absent k (e ∷ l) h =
      cond_case (λ (m : List E). is_held kind k m ≡ false) (is_about kind k e)
      (λ t. held_alike k (kind.about e) t l ∙ not-true _ (and_left (not (is_held kind (kind.about e) l)) (distinct kind l) h))
      (λ t. ap (λ (b : Bool). b || is_held kind k (removed kind k l)) t ∙ removed_absent k l (and_right (not (is_held kind (kind.about e) l)) (distinct kind l) h))

  withdrawn_stays : (a : K) (keys : List K) (l : List E) → is_held kind a l ≡ false → is_held kind a (foldl (λ h k. removed kind k h) l keys) ≡ false
  withdrawn_stays a [] l h = h
  withdrawn_stays a (k ∷ keys) l h = withdrawn_stays a keys (removed kind k l) (part_none (is_about kind a) (removed_part kind k l) h)

  pub withdrawn_absent : (a : K) (keys : List K) (l : List E) → one_of (λ k. kind.same k a) keys ≡ true → distinct kind l ≡ true → is_held kind a (foldl (λ h k. removed kind k h) l keys) ≡ false
  unfolding one_of
  withdrawn_absent a [] l o h = absurd (false≢true o)
  withdrawn_absent a (k ∷ keys) l o h = go (kind.same k a) refl o (λ q. withdrawn_absent a keys (removed kind k l) q (part_distinct kind (removed_part kind k l) h))
    where
      go : (b : Bool) → kind.same k a ≡ b → (b || one_of (λ k. kind.same k a) keys) ≡ true
          → (one_of (λ k. kind.same k a) keys ≡ true → is_held kind a (foldl (λ h k. removed kind k h) (removed kind k l) keys) ≡ false)
          → is_held kind a (foldl (λ h k. removed kind k h) (removed kind k l) keys) ≡ false
      go true t q i = withdrawn_stays a keys (removed kind k l) (sym (held_alike k a t (removed kind k l)) ∙ removed_absent k l h)
      go false t q i = i q

  named_stays_absent : (a : K) (b : Bool) (x : Moments) (l : List (Marked E)) (k : K) → kind.same k a ≡ false → is_held (marking kind) a l ≡ false → is_held (marking kind) a (named kind b x l k) ≡ false
  unfolding named
  named_stays_absent a b x l k n h =
      cond_case (λ (r : List (Marked E)). is_held (marking kind) a r ≡ false) b
      (λ _. part_none (is_about (marking kind) a) (removed_part (marking kind) k l) h)
      (λ _.
      cond_case (λ (r : List (Marked E)). is_held (marking kind) a r ≡ false) (is_held (marking kind) k l)
      (λ _. renewed_held (marking kind) (lawful_marking kind w) a k x l ∙ h)
      (λ _.
      inserted_one (is_about (marking kind) a) ((marking kind).entry k x) (roomed (marking kind) l)
      ∙ ap (λ (t : Bool). t || is_held (marking kind) a (roomed (marking kind) l)) (ap (kind.same a) (w.made k x) ∙ w.turned a k ∙ n)
      ∙ part_none (is_about (marking kind) a) (roomed_part (marking kind) l) h))

  pub all_stay_absent : (a : K) (b : Bool) (x : Moments) (keys : List K) (l : List E) → one_of (λ k. kind.same k a) keys ≡ false → is_held kind a l ≡ false → is_held kind a (named_all kind b x keys l) ≡ false
  unfolding named_all one_of
  all_stay_absent a b x keys l n h = items_one (is_about kind a) (foldl (named kind b x) (map unmarked l) keys) ∙ go keys (map unmarked l) n (sym (items_one (is_about kind a) (map unmarked l)) ∙ ap (is_held kind a) (unmarked_items l) ∙ h)
    where
      go : (keys : List K) (l : List (Marked E)) → one_of (λ k. kind.same k a) keys ≡ false → is_held (marking kind) a l ≡ false → is_held (marking kind) a (foldl (named kind b x) l keys) ≡ false
      go [] l n h = h
      go (k ∷ keys) l n h = go keys (named kind b x l k) (or_right (kind.same k a) (one_of (λ k. kind.same k a) keys) n) (named_stays_absent a b x l k (or_left (kind.same k a) (one_of (λ k. kind.same k a) keys) n) h)

-- Entries that pass a test which none about the key passes are left as they are.
module _ {K E : Type 0} (kind : Kind K E) (w : Lawful kind) (test : E → Bool) (k : K) (out : (e : E) → is_about kind k e ≡ true → test e ≡ false) where
  pub removed_keeps : (l : List E) → keep test l ≡ keep test (removed kind k l)
  unfolding keep removed
  removed_keeps [] = refl
  removed_keeps (e ∷ l) =
      cond_case (λ (m : List E). cond (test e) (e ∷ keep test l) (keep test l) ≡ keep test m) (is_about kind k e)
      (λ t. ap (λ (b : Bool). cond b (e ∷ keep test l) (keep test l)) (out e t))
      (λ _. ap (λ (m : List E). cond (test e) (e ∷ m) m) (removed_keeps l))

  pub renewed_out : (x : Moments) (e : E) → is_about kind k e ≡ true → test (kind.renew x e) ≡ false
  renewed_out x e t = out (kind.renew x e) (ap (kind.same k) (w.kept x e) ∙ t)

  pub renewed_keeps : (x : Moments) (l : List E) → keep test l ≡ keep test (renewed kind k x l)
  unfolding keep renewed
  renewed_keeps x [] = refl
  renewed_keeps x (e ∷ l) =
      cond_case (λ (m : List E). cond (test e) (e ∷ keep test l) (keep test l) ≡ keep test m) (is_about kind k e)
      (λ t. ap (λ (b : Bool). cond b (e ∷ keep test l) (keep test l)) (out e t) ∙ sym (ap (λ (b : Bool). cond b (kind.renew x e ∷ keep test l) (keep test l)) (renewed_out x e t)))
      (λ _. ap (λ (m : List E). cond (test e) (e ∷ m) m) (renewed_keeps x l))

  pub made_out : (x : Moments) → test (kind.entry k x) ≡ false
  made_out x = out (kind.entry k x) (ap (kind.same k) (w.made k x) ∙ w.self k)

pub inserted_keeps : {E : Type 0} (test : Marked E → Bool) (m : Marked E) → test m ≡ false → (l : List (Marked E)) → keep test l ≡ keep test (inserted m l)
unfolding keep inserted
inserted_keeps test m n [] = rw n
inserted_keeps {E} test m n (d ∷ l) =
    cond_case (λ (r : List (Marked E)). cond (test d) (d ∷ keep test l) (keep test l) ≡ keep test r) d.own
    (λ _. ap (λ (r : List (Marked E)). cond (test d) (d ∷ r) r) (inserted_keeps test m n l))
    (λ _. sym (ap (λ (b : Bool). cond b (m ∷ cond (test d) (d ∷ keep test l) (keep test l)) (cond (test d) (d ∷ keep test l) (keep test l))) n))
