-- The laws by which a list keeps what holds of its entries. Assumes nothing.
use mathlib.Core.Path.{◌≡◌, refl, ap, ◌∙◌}
use mathlib.Core.Bool.{Bool, true, false, not, ◌&&◌, ◌||◌}
use mathlib.Core.List.Sublistᴰ
use mathlib.Core.List.{List, [], ◌∷◌, Sublistᴰ}
use lib.Dec.{ltb}
use lib.ListN.{length}
use borrow.Author.Tests.{not-true}
use Rattle.octets.proofs.BoolLaws.{and_left, and_right, or_left, or_right}
use Rattle.entries.specs.Entries.{Kind, Marked, places, keep, one_of, each, is_about, is_held, distinct, removed, renewed, evicted, roomed, inserted, marking, no_later}
use Rattle.entries.specs.declared.Moments.{Moments}
use Rattle.entries.proofs.EntryLaws.{cond_case}

-- Whether two keys are the same is an equivalence, an entry is about the key and has the moments that it is made with, and a renewal gives it other moments and leaves what it is about.
pub record Lawful {K E : Type 0} (kind : Kind K E) : Type 0 where
  pub made : (k : K) (x : Moments) → kind.about (kind.entry k x) ≡ k
  pub kept : (x : Moments) (e : E) → kind.about (kind.renew x e) ≡ kind.about e
  pub timed : (k : K) (x : Moments) → kind.moments (kind.entry k x) ≡ x
  pub retimed : (x : Moments) (e : E) → kind.moments (kind.renew x e) ≡ x
  pub self : (k : K) → kind.same k k ≡ true
  pub turned : (j k : K) → kind.same j k ≡ kind.same k j
  pub along : (i j k : K) → kind.same i j ≡ true → kind.same i k ≡ kind.same j k

pub lawful_marking : {K E : Type 0} (kind : Kind K E) → Lawful kind → Lawful (marking kind)
lawful_marking kind w =
    record {
      made = w.made;
      kept = λ x m. w.kept x m.item;
      timed = w.timed;
      retimed = λ x m. w.retimed x m.item;
      self = w.self;
      turned = w.turned;
      along = w.along;
    }

-- What holds of a list holds of a part of it.
module _ {E : Type 0} (p : E → Bool) where
  pub part_each : {m l : List E} → Sublistᴰ m l → each p l ≡ true → each p m ≡ true
  unfolding each
  part_each Sublistᴰ.slnil h = h
  part_each (Sublistᴰ.cons {a = a} {l₂ = l} s) h = part_each s (and_right (p a) (each p l) h)
  part_each (Sublistᴰ.cons-cons {a = a} {b = b} {l₁ = m} {l₂ = l} e s) h = rw (ap p e, and_left (p b) (each p l) h) (part_each s (and_right (p b) (each p l) h))

  pub part_none : {m l : List E} → Sublistᴰ m l → one_of p l ≡ false → one_of p m ≡ false
  unfolding one_of
  part_none Sublistᴰ.slnil h = h
  part_none (Sublistᴰ.cons {a = a} {l₂ = l} s) h = part_none s (or_right (p a) (one_of p l) h)
  part_none (Sublistᴰ.cons-cons {a = a} {b = b} {l₁ = m} {l₂ = l} e s) h = rw (ap p e, or_left (p b) (one_of p l) h) (part_none s (or_right (p b) (one_of p l) h))

  pub keep_part : (l : List E) → Sublistᴰ (keep p l) l
  unfolding keep
  keep_part [] = Sublistᴰ.slnil
  keep_part (e ∷ l) = cond_case (λ (m : List E). Sublistᴰ m (e ∷ l)) (p e) (λ _. Sublistᴰ.cons-cons refl (keep_part l)) (λ _. Sublistᴰ.cons (keep_part l))

module _ {K E : Type 0} (kind : Kind K E) where
  pub part_distinct : {m l : List E} → Sublistᴰ m l → distinct kind l ≡ true → distinct kind m ≡ true
  unfolding distinct
  part_distinct Sublistᴰ.slnil h = h
  part_distinct (Sublistᴰ.cons {a = a} {l₂ = l} s) h = part_distinct s (and_right (not (is_held kind (kind.about a) l)) (distinct kind l) h)
  part_distinct (Sublistᴰ.cons-cons {a = a} {b = b} {l₁ = m} {l₂ = l} e s) h =
      let n : is_held kind (kind.about b) m ≡ false = part_none (is_about kind (kind.about b)) s (not-true _ (and_left (not (is_held kind (kind.about b) l)) (distinct kind l) h)) in
      rw (e, n) (part_distinct s (and_right (not (is_held kind (kind.about b) l)) (distinct kind l) h))

  pub removed_part : (k : K) (l : List E) → Sublistᴰ (removed kind k l) l
  unfolding removed
  removed_part k [] = Sublistᴰ.slnil
  removed_part k (e ∷ l) = cond_case (λ (m : List E). Sublistᴰ m (e ∷ l)) (is_about kind k e) (λ _. Sublistᴰ.cons (Sublistᴰ.refl l)) (λ _. Sublistᴰ.cons-cons refl (removed_part k l))

  pub evicted_part : (l : List E) → Sublistᴰ (evicted kind l) l
  unfolding evicted
  evicted_part [] = Sublistᴰ.slnil
  evicted_part (e ∷ l) = cond_case (λ (m : List E). Sublistᴰ m (e ∷ l)) (one_of (λ d. no_later kind d e) l) (λ _. Sublistᴰ.cons-cons refl (evicted_part l)) (λ _. Sublistᴰ.cons (Sublistᴰ.refl l))

  pub roomed_part : (l : List E) → Sublistᴰ (roomed kind l) l
  unfolding roomed
  roomed_part l = cond_case (λ (m : List E). Sublistᴰ m l) (ltb (length l) places) (λ _. Sublistᴰ.refl l) (λ _. evicted_part l)

-- Renewals change no key.
module _ {K E : Type 0} (kind : Kind K E) (w : Lawful kind) where
  pub renewed_held : (j k : K) (x : Moments) (l : List E) → is_held kind j (renewed kind k x l) ≡ is_held kind j l
  unfolding renewed one_of
  renewed_held j k x [] = refl
  renewed_held j k x (e ∷ l) =
      cond_case (λ (m : List E). is_held kind j m ≡ (is_about kind j e || is_held kind j l)) (is_about kind k e)
      (λ _. ap (λ (i : K). kind.same j i || is_held kind j l) (w.kept x e))
      (λ _. ap (λ (b : Bool). is_about kind j e || b) (renewed_held j k x l))

  pub renewed_distinct : (k : K) (x : Moments) (l : List E) → distinct kind (renewed kind k x l) ≡ distinct kind l
  unfolding renewed distinct
  renewed_distinct k x [] = refl
  renewed_distinct k x (e ∷ l) =
      cond_case (λ (m : List E). distinct kind m ≡ (not (is_held kind (kind.about e) l) && distinct kind l)) (is_about kind k e)
      (λ _. ap (λ (i : K). not (is_held kind i l) && distinct kind l) (w.kept x e))
      (λ _. rw (renewed_held (kind.about e) k x l, renewed_distinct k x l))

pub renewed_each : {K E : Type 0} (kind : Kind K E) (p : E → Bool) (k : K) (x : Moments) (l : List E) → ((e : E) → p (kind.renew x e) ≡ true) → each p l ≡ true → each p (renewed kind k x l) ≡ true
unfolding renewed each
renewed_each kind p k x [] r h = h
renewed_each {E = E} kind p k x (e ∷ l) r h =
    cond_case (λ (m : List E). each p m ≡ true) (is_about kind k e)
    (λ _. rw (r e) (and_right (p e) (each p l) h))
    (λ _. rw (and_left (p e) (each p l) h) (renewed_each kind p k x l r (and_right (p e) (each p l) h)))

-- An insertion adds the one entry.
module _ {E : Type 0} (p : Marked E → Bool) (m : Marked E) where
  pub inserted_one : (l : List (Marked E)) → one_of p (inserted m l) ≡ (p m || one_of p l)
  unfolding inserted one_of
  inserted_one [] = refl
  inserted_one (d ∷ l) =
      cond_case (λ (r : List (Marked E)). one_of p r ≡ (p m || (p d || one_of p l))) d.own
      (λ _. ap (λ (b : Bool). p d || b) (inserted_one l) ∙ swap (p d) (p m) (one_of p l))
      (λ _. refl)
    where
      swap : (a b c : Bool) → (a || (b || c)) ≡ (b || (a || c))
      swap true true c = refl
      swap true false c = refl
      swap false true c = refl
      swap false false c = refl

  pub inserted_each : (l : List (Marked E)) → p m ≡ true → each p l ≡ true → each p (inserted m l) ≡ true
  unfolding inserted each
  inserted_each [] q h = rw q
  inserted_each (d ∷ l) q h =
      cond_case (λ (r : List (Marked E)). each p r ≡ true) d.own
      (λ _. rw (and_left (p d) (each p l) h) (inserted_each l q (and_right (p d) (each p l) h)))
      (λ _. rw q h)
