-- How what is written at one place becomes what is written at a name; the form before it and after it. Assumes nothing.
use mathlib.Core.Path.{◌≡◌, refl, sym, ◌∙◌, ap, subst}
use mathlib.Core.Bool.{Bool, true, false, cond, not, ◌&&◌, ◌||◌, or-true, true≢false}
use mathlib.Core.List.{List, [], ◌∷◌, map}
use mathlib.Core.Option.{Option, none, some}
use Rattle.std.specs.Prelude.{Option as Maybe, Some, None as Nothing}
use Prim.Native.Nat.{ℕ, zero, suc, ◌+◌, ◌≤◌, ◌<◌, zero-le, suc-le-suc}
use native.Mathlib.Omega.{arith}
use lib.Dec.{eqb}
use lib.ListN.{length, get_or, set, take, length-set}
use borrow.Author.Tests.{not-true, not-false, eqb-true, eq-eqb}
use borrow.Table.Steps.{cases}
use Rattle.octets.proofs.BoolLaws.{and_left, and_right, or_left, or_right}
use Rattle.octets.specs.Compare.{same_octets}
use Rattle.octets.proofs.CompareLaws.{same_true}
use Rattle.dname.specs.Name.{key, same_name, name_of}
use Rattle.octets.specs.Count.{Octets, member, distinct}
use Rattle.addresses.specs.Addresses.{Family, four, six}
use Rattle.octets.proofs.CountLaws.{same_yes, same_no, same_dec, counts_list, distinct_head, distinct_rest, distinct_cons}
use Rattle.addresses.proofs.SetLaws.{sound_few, sound_once}
use Rattle.dname.specs.declared.name.Name.{Name}
use Rattle.zone.specs.declared.entry.Entry.{Entry}
use Rattle.zone.specs.declared.Zone.{Zone}
use Rattle.update.specs.Rules as rules
use Rattle.update.specs.Rules.{Host, there, GoodHost, Form}
use Rattle.zone.specs.Meaning.{used, key_of, keys, with_key, in_order, all_in_order, formed}
use Rattle.update.specs.Meaning.{list_of, host_of, zone_of}
use Rattle.update.specs.Spelling.{spelling_of, kept}
use Rattle.request.specs.Inner.{Spells}
use Rattle.zone.specs.Survey.{named, place_from}
use Rattle.zone.proofs.SurveyLaws.{blank}
use Rattle.request.proofs.HostLaws.{order_parts}
use Rattle.update.proofs.ZoneLaws.{put, put_has, some≢none, zone_eq, named_put, put_size}

-- ---- the form of the structs, and what it gives

pub formed_places : (z : Zone) → formed z ≡ true → length z.entries ≡ 64
unfolding formed
formed_places z h = eqb-true (length z.entries) 64 (and_left (eqb (length z.entries) 64) _ h)

pub formed_order : (z : Zone) → formed z ≡ true → all_in_order z.entries ≡ true
unfolding formed
formed_order z h = and_left (all_in_order z.entries) (distinct (keys z.entries)) (and_right (eqb (length z.entries) 64) _ h)

pub formed_names : (z : Zone) → formed z ≡ true → distinct (keys z.entries) ≡ true
unfolding formed
formed_names z h = and_right (all_in_order z.entries) (distinct (keys z.entries)) (and_right (eqb (length z.entries) 64) _ h)

pub formed_all : (z : Zone) → length z.entries ≡ 64 → all_in_order z.entries ≡ true → distinct (keys z.entries) ≡ true → formed z ≡ true
unfolding formed
formed_all z l h k = rw (eq-eqb (length z.entries) 64 l, h, k)

few_keys : (es : List Entry) → length (keys es) ≤ length es
unfolding keys
few_keys [] = zero-le
few_keys (e ∷ es) = go (used e) (few_keys es)
  where
    go : (b : Bool) → length (keys es) ≤ length es → length (cond b (key_of e ∷ keys es) (keys es)) ≤ suc (length es)
    go true h = suc-le-suc h
    go false h = omega arith

-- a key is told of exactly where a name has it, whatever is told
pub with_keys : {A : Type 0} (tells : Entry → A) (es : List Entry) (k : Octets) → there (with_key tells es k) ≡ member k (keys es)
unfolding with_key keys member
with_keys tells [] k = refl
with_keys tells (e ∷ es) k = go (used e) (with_keys tells es k)
  where
    on : (b : Bool) → there (with_key tells es k) ≡ member k (keys es) → there (cond b (some (tells e)) (with_key tells es k)) ≡ (b || member k (keys es))
    on true h = refl
    on false h = h

    go : (b : Bool) → there (with_key tells es k) ≡ member k (keys es) → there (cond (b && same_octets (key_of e) k) (some (tells e)) (with_key tells es k)) ≡ member k (cond b (key_of e ∷ keys es) (keys es))
    go true h = on (same_octets (key_of e) k) h
    go false h = h

-- as many as a count says, at most
taken_few : {A : Type 0} (f : A → Octets) (n : ℕ) (l : List A) → n ≤ 4 → length (map f (take n l)) ≤ 4
taken_few {A} f n l h = let k = go n l in omega arith
  where
    go : (m : ℕ) (k : List A) → length (map f (take m k)) ≤ m
    go zero k = zero-le
    go (suc m) [] = zero-le
    go (suc m) (x ∷ k) = suc-le-suc (go m k)

pub good_host : (e : Entry) → in_order e ≡ true → GoodHost (host_of e)
unfolding host_of
good_host e h = record { at_most_four = few; counted = λ f. counts_list (list_of e f) (once f) }
  where
    once : (f : Family) → distinct (list_of e f) ≡ true
    once four = sound_once _ _ (order_parts e h).sound4
    once six = sound_once _ _ (order_parts e h).sound6

    few : (f : Family) → length (list_of e f) ≤ 4
    few four = taken_few _ _ _ (sound_few _ _ (order_parts e h).sound4)
    few six = taken_few _ _ _ (sound_few _ _ (order_parts e h).sound6)

good_look : (es : List Entry) → all_in_order es ≡ true → (k : Octets) (h : Host) → with_key host_of es k ≡ some h → GoodHost h
unfolding all_in_order with_key
good_look [] g k h p = absurd (some≢none (sym p))
good_look (e ∷ es) g k h p =
    go (used e) (same_octets (key_of e) k) (and_left (cond (used e) (in_order e) true) (all_in_order es) g) p (good_look es (and_right (cond (used e) (in_order e) true) (all_in_order es) g) k h)
  where
    go : (b c : Bool) → cond b (in_order e) true ≡ true → cond (b && c) (some (host_of e)) (with_key host_of es k) ≡ some h → (with_key host_of es k ≡ some h → GoodHost h) → GoodHost h
    go true true o q f = let r : host_of e ≡ h = cc in subst GoodHost r (good_host e o)
    go true false o q f = f q
    go false c o q f = f q

-- a zone that is not refusal 17 has the form that the rules need
pub form_of : (z : Zone) → formed z ≡ true → Form (zone_of z)
unfolding zone_of
form_of z g = record {
  few = (let l = formed_places z g in let a : length (keys z.entries) ≤ length z.entries = few_keys z.entries in omega arith);
  names = record { list = keys z.entries; once = formed_names z g; number = refl; exactly = with_keys host_of z.entries };
  hosts = good_look z.entries (formed_order z g);
}

-- ---- one place written: a new name in a free place, a name's host changed, a name's place freed

-- what a place tells of how its name is spelled
abbrev pub spells_as : Entry → Octets
spells_as e = name_of e.name

abbrev pub view : {A : Type 0} → (Entry → A) → Entry → Option A
view tells e = cond (used e) (some (tells e)) none

-- nowhere but at place i does an entry have the key k
abbrev pub Alone : ℕ → Octets → List Entry → Type 0
Alone i k [] = Unit
Alone zero k (e ∷ es) = (used e ≡ true → key_of e ≡ k) × (member k (keys es) ≡ false)
Alone (suc i) k (e ∷ es) = ((used e && same_octets (key_of e) k) ≡ false) × Alone i k es

inside : {A : Type 0} {x y : A} → ◌≡◌ {A = Option A} (some x) (some y) → x ≡ y
inside q = cc

or_none : {A : Type 0} (o : Option A) → there o ≡ false → o ≡ none
or_none none h = refl
or_none (some x) h = absurd (true≢false h)

module _ {A : Type 0} (tells : Entry → A) where
  pub with_absent : (es : List Entry) (k : Octets) → member k (keys es) ≡ false → with_key tells es k ≡ none
  with_absent es k h = or_none (with_key tells es k) (with_keys tells es k ∙ h)

  with_hit : (e : Entry) (es : List Entry) (k : Octets) → (used e ≡ true → key_of e ≡ k) → member k (keys es) ≡ false → with_key tells (e ∷ es) k ≡ view tells e
  unfolding with_key
  with_hit e es k f h = go (used e) f
    where
      go : (b : Bool) → (b ≡ true → key_of e ≡ k) → cond (b && same_octets (key_of e) k) (some (tells e)) (with_key tells es k) ≡ cond b (some (tells e)) none
      go true g = rw (same_yes (key_of e) k (g refl)) refl
      go false g = with_absent es k h

  with_miss : (e : Entry) (es : List Entry) (k m : Octets) → (used e ≡ true → key_of e ≡ k) → ¬ (k ≡ m) → with_key tells (e ∷ es) m ≡ with_key tells es m
  unfolding with_key
  with_miss e es k m f q = go (used e) f
    where
      go : (b : Bool) → (b ≡ true → key_of e ≡ k) → cond (b && same_octets (key_of e) m) (some (tells e)) (with_key tells es m) ≡ with_key tells es m
      go true g = rw (same_no (key_of e) m (λ r. q (sym (g refl) ∙ r))) refl
      go false g = refl

  pub with_past : (e : Entry) (es : List Entry) (k : Octets) → (used e && same_octets (key_of e) k) ≡ false → with_key tells (e ∷ es) k ≡ with_key tells es k
  unfolding with_key
  with_past e es k h = rw h

  pub with_here : (e : Entry) (es : List Entry) (k : Octets) → (used e && same_octets (key_of e) k) ≡ true → with_key tells (e ∷ es) k ≡ some (tells e)
  unfolding with_key
  with_here e es k h = rw h

  with_found : (es : List Entry) (i : ℕ) (b : Entry) (k : Octets) → i < length es → Alone i k es → (used (get_or es i b) && same_octets (key_of (get_or es i b)) k) ≡ true
      → with_key tells es k ≡ some (tells (get_or es i b))
  with_found [] i b k p a u = absurd (omega arith)
  with_found (x ∷ es) zero b k p a u = with_here x es k u
  with_found (x ∷ es) (suc i) b k p a u = with_past x es k a.0 ∙ with_found es i b k (omega arith) a.1 u

  with_set : (es : List Entry) (i : ℕ) (d : Entry) (k : Octets) → i < length es → Alone i k es → (used d ≡ true → key_of d ≡ k)
      → (m : Octets) → with_key tells (set es i d) m ≡ cond (same_octets k m) (view tells d) (with_key tells es m)
  with_set [] i d k p a f m = absurd (omega arith)
  with_set (x ∷ es) zero d k p a f m = go (same_dec k m)
    where
      go : Dec (k ≡ m) → with_key tells (d ∷ es) m ≡ cond (same_octets k m) (view tells d) (with_key tells (x ∷ es) m)
      go (yes q) = rw (same_yes k m q) (subst (λ (u : Octets). with_key tells (d ∷ es) u ≡ view tells d) q (with_hit d es k f a.1))
      go (no q) = rw (same_no k m q) (with_miss d es k m f q ∙ sym (with_miss x es k m a.0 q))
  with_set (x ∷ es) (suc i) d k p a f m = go (same_dec k m) (with_set es i d k (omega arith) a.1 f m)
    where
      both : (u v : List Entry) → with_key tells u m ≡ with_key tells v m → with_key tells (x ∷ u) m ≡ with_key tells (x ∷ v) m
      both u v h = unfold with_key in ap (cond (used x && same_octets (key_of x) m) (some (tells x))) h

      go : Dec (k ≡ m) → with_key tells (set es i d) m ≡ cond (same_octets k m) (view tells d) (with_key tells es m)
          → with_key tells (x ∷ set es i d) m ≡ cond (same_octets k m) (view tells d) (with_key tells (x ∷ es) m)
      go (yes q) h = with_past x (set es i d) m (subst (λ (u : Octets). (used x && same_octets (key_of x) u) ≡ false) q a.0) ∙ h ∙ rw (same_yes k m q) refl
      go (no q) h = rw (same_no k m q) (both (set es i d) es (h ∙ rw (same_no k m q) refl))

-- ---- a place found, or a free one

-- a used entry at the head: its key stands nowhere behind it
pub head_once : (x : Entry) (es : List Entry) → used x ≡ true → distinct (keys (x ∷ es)) ≡ true → member (key_of x) (keys es) ≡ false
unfolding keys
head_once x es u h = distinct_head (key_of x) (keys es) (rw u at h)

pub tail_distinct : (x : Entry) (es : List Entry) → distinct (keys (x ∷ es)) ≡ true → distinct (keys es) ≡ true
unfolding keys
tail_distinct x es h = go (used x) h
  where
    go : (b : Bool) → distinct (cond b (key_of x ∷ keys es) (keys es)) ≡ true → distinct (keys es) ≡ true
    go true r = distinct_rest (key_of x) (keys es) r
    go false r = r

member_at : (es : List Entry) (i : ℕ) (b : Entry) (k : Octets) → i < length es → (used (get_or es i b) && same_octets (key_of (get_or es i b)) k) ≡ true → member k (keys es) ≡ true
unfolding keys member
member_at [] i b k p u = absurd (omega arith)
member_at (x ∷ es) zero b k p u = go (used x) u
  where
    go : (c : Bool) → (c && same_octets (key_of x) k) ≡ true → member k (cond c (key_of x ∷ keys es) (keys es)) ≡ true
    go true h = rw h refl
    go false h = absurd (true≢false (sym h))
member_at (x ∷ es) (suc i) b k p u = go (used x) (member_at es i b k (omega arith) u)
  where
    go : (c : Bool) → member k (keys es) ≡ true → member k (cond c (key_of x ∷ keys es) (keys es)) ≡ true
    go true h = rw h (or-true (same_octets (key_of x) k))
    go false h = h

pub alone_found : (es : List Entry) (i : ℕ) (b : Entry) (k : Octets) → i < length es → (used (get_or es i b) && same_octets (key_of (get_or es i b)) k) ≡ true
    → distinct (keys es) ≡ true → Alone i k es
alone_found [] i b k p u d = tt
alone_found (x ∷ es) zero b k p u d =
    let r : key_of x ≡ k = same_true (key_of x) k (and_right (used x) (same_octets (key_of x) k) u) in
    (λ t. r, ap (λ (t : Octets). member t (keys es)) (sym r) ∙ head_once x es (and_left (used x) (same_octets (key_of x) k) u) d)
alone_found (x ∷ es) (suc i) b k p u d =
    (cases (used x && same_octets (key_of x) k) (λ h. absurd (twice h)) (λ h. h), alone_found es i b k (omega arith) u (tail_distinct x es d))
  where
    twice : (used x && same_octets (key_of x) k) ≡ true → ⊥
    twice h =
        let r : key_of x ≡ k = same_true (key_of x) k (and_right (used x) (same_octets (key_of x) k) h) in
        true≢false (sym (member_at es i b k (omega arith) u) ∙ ap (λ (t : Octets). member t (keys es)) (sym r) ∙ head_once x es (and_left (used x) (same_octets (key_of x) k) h) d)

-- the head has not the key that no name has
head_other : (x : Entry) (es : List Entry) (k : Octets) → member k (keys (x ∷ es)) ≡ false → ((used x && same_octets (key_of x) k) ≡ false) × (member k (keys es) ≡ false)
unfolding keys member
head_other x es k h = go (used x) h
  where
    go : (c : Bool) → member k (cond c (key_of x ∷ keys es) (keys es)) ≡ false → ((c && same_octets (key_of x) k) ≡ false) × (member k (keys es) ≡ false)
    go true r = (or_left (same_octets (key_of x) k) (member k (keys es)) r, or_right (same_octets (key_of x) k) (member k (keys es)) r)
    go false r = (refl, r)

alone_free : (es : List Entry) (i : ℕ) (b : Entry) (k : Octets) → i < length es → used (get_or es i b) ≡ false → member k (keys es) ≡ false → Alone i k es
alone_free [] i b k p u h = tt
alone_free (x ∷ es) zero b k p u h = (λ t. absurd (true≢false (sym t ∙ u)), (head_other x es k h).1)
alone_free (x ∷ es) (suc i) b k p u h = ((head_other x es k h).0, alone_free es i b k (omega arith) u (head_other x es k h).1)

-- ---- the form again

distinct_set : (es : List Entry) (i : ℕ) (d : Entry) (k : Octets) → i < length es → Alone i k es → (used d ≡ true → key_of d ≡ k)
    → distinct (keys es) ≡ true → distinct (keys (set es i d)) ≡ true
unfolding keys
distinct_set [] i d k p a f h = absurd (omega arith)
distinct_set (x ∷ es) zero d k p a f h = go (used d) f
  where
    go : (b : Bool) → (b ≡ true → key_of d ≡ k) → distinct (cond b (key_of d ∷ keys es) (keys es)) ≡ true
    go false g = tail_distinct x es h
    go true g =
        distinct_cons (key_of d) (keys es) (ap (λ (t : Octets). member t (keys es)) (g refl) ∙ a.1) (tail_distinct x es h)
distinct_set (x ∷ es) (suc i) d k p a f h = go (used x) refl (distinct_set es i d k (omega arith) a.1 f (tail_distinct x es h))
  where
    go : (b : Bool) → used x ≡ b → distinct (keys (set es i d)) ≡ true → distinct (cond b (key_of x ∷ keys (set es i d)) (keys (set es i d))) ≡ true
    go false u r = r
    go true u r =
        let n : same_octets (key_of x) k ≡ false = sym (ap (λ (t : Bool). t && same_octets (key_of x) k) u) ∙ a.0 in
        let m : same_octets k (key_of x) ≡ false = same_no k (key_of x) (λ q. true≢false (sym (same_yes (key_of x) k (sym q)) ∙ n)) in
        let l : member (key_of x) (keys (set es i d)) ≡ false =
        sym (with_keys key_of (set es i d) (key_of x)) ∙ ap there (with_set key_of es i d k (omega arith) a.1 f (key_of x)) ∙ ap (λ (t : Bool). there (cond t (view key_of d) (with_key key_of es (key_of x)))) m
        ∙ with_keys key_of es (key_of x) ∙ head_once x es u h in
        distinct_cons (key_of x) (keys (set es i d)) l r

order_set : (es : List Entry) (i : ℕ) (d : Entry) → (used d ≡ true → in_order d ≡ true) → all_in_order es ≡ true → all_in_order (set es i d) ≡ true
unfolding all_in_order
order_set [] i d f h = h
order_set (x ∷ es) zero d f h = go (used d) f
  where
    go : (b : Bool) → (b ≡ true → in_order d ≡ true) → (cond b (in_order d) true && all_in_order es) ≡ true
    go true g = rw (g refl) (and_right (cond (used x) (in_order x) true) (all_in_order es) h)
    go false g = and_right (cond (used x) (in_order x) true) (all_in_order es) h
order_set (x ∷ es) (suc i) d f h =
    let a : cond (used x) (in_order x) true ≡ true = and_left (cond (used x) (in_order x) true) (all_in_order es) h in
    rw a (order_set es i d f (and_right (cond (used x) (in_order x) true) (all_in_order es) h))

order_at : (es : List Entry) (i : ℕ) (b : Entry) → i < length es → used (get_or es i b) ≡ true → all_in_order es ≡ true → in_order (get_or es i b) ≡ true
unfolding all_in_order
order_at [] i b p u h = absurd (omega arith)
order_at (x ∷ es) zero b p u h = go (used x) u (and_left (cond (used x) (in_order x) true) (all_in_order es) h)
  where
    go : (c : Bool) → c ≡ true → cond c (in_order x) true ≡ true → in_order x ≡ true
    go true q r = r
    go false q r = absurd (true≢false (sym q))
order_at (x ∷ es) (suc i) b p u h = order_at es i b (omega arith) u (and_right (cond (used x) (in_order x) true) (all_in_order es) h)

-- ---- the place where a test holds, if any

abbrev pub None : {A : Type 0} → (A → Bool) → List A → Type 0
None p [] = Unit
None p (x ∷ l) = (p x ≡ false) × None p l

data Place {A : Type 0} (p : A → Bool) (b : A) (i : ℕ) (otherwise : Maybe ℕ) (l : List A) (r : Maybe ℕ) : Type 0 where
  here : (at : ℕ) → r ≡ Some (i + at) → at < length l → p (get_or l at b) ≡ true → Place p b i otherwise l r
  nowhere : r ≡ otherwise → None p l → Place p b i otherwise l r

place : {A : Type 0} (p : A → Bool) (b : A) (i : ℕ) (otherwise : Maybe ℕ) (l : List A) → Place p b i otherwise l (place_from p i otherwise l)
unfolding place_from
place p b i otherwise [] = nowhere refl tt
place p b i otherwise (x ∷ l) = go (p x) refl (place p b (suc i) (cond (p x) (Some i) otherwise) l)
  where
    next : Maybe ℕ
    next = place_from p (suc i) (cond (p x) (Some i) otherwise) l

    go : (c : Bool) → p x ≡ c → Place p b (suc i) (cond (p x) (Some i) otherwise) l next → Place p b i otherwise (x ∷ l) next
    go c q (here at e h t) = let m : suc i + at ≡ i + suc at = omega arith in here (suc at) (e ∙ ap Some m) (omega arith) t
    go true q (nowhere e n) = let m : i ≡ i + 0 = omega arith in here 0 (e ∙ (rw q (ap Some m))) (omega arith) q
    go false q (nowhere e n) = nowhere (e ∙ rw q) (q, n)

module _ {A : Type 0} (p : A → Bool) (b : A) (l : List A) where
  pub here_at : (r : ℕ) → place_from p 0 Nothing l ≡ Some r → (r < length l) × (p (get_or l r b) ≡ true)
  here_at r w = go (place p b 0 Nothing l)
    where
      go : Place p b 0 Nothing l (place_from p 0 Nothing l) → (r < length l) × (p (get_or l r b) ≡ true)
      go (here at e k t) =
          let m : r ≡ 0 + at = cc in
          let q : r ≡ at = omega arith in (omega arith, ap (λ (i : ℕ). p (get_or l i b)) q ∙ t)
      go (nowhere e n) = absurd (cc)

  pub here_none : place_from p 0 Nothing l ≡ Nothing → None p l
  here_none w = go (place p b 0 Nothing l)
    where
      go : Place p b 0 Nothing l (place_from p 0 Nothing l) → None p l
      go (here at e k t) = absurd (cc)
      go (nowhere e n) = n

none_member : (n : Octets) (es : List Entry) → None (named n) es → member (key n) (keys es) ≡ false
unfolding keys member
none_member n [] h = refl
none_member n (e ∷ es) h = go (used e) (unfold named same_name in h.0) (none_member n es h.1)
  where
    go : (b : Bool) → (b && same_octets (key_of e) (key n)) ≡ false → member (key n) (keys es) ≡ false → member (key n) (cond b (key_of e ∷ keys es) (keys es)) ≡ false
    go true q r = rw (q, r) refl
    go false q r = r

all_used : (es : List Entry) → None (λ (e : Entry). not (used e)) es → length (keys es) ≡ length es
unfolding keys
all_used [] h = refl
all_used (e ∷ es) h = rw (not-false (used e) h.0) (ap suc (all_used es h.1))

-- ---- what a survey shows of the zone

-- a place found: it is in order, what stands there stands at the name, and what is written there is written at the name
module _ (z : Zone) (g : formed z ≡ true) (n : Octets) (b : Entry) (r : ℕ) where
  l : length z.entries ≡ 64
  l = formed_places z g

  abbrev pub wrote : Entry → Zone
  wrote d = record { entries = set z.entries r d }

  -- what is written has the name's key, and is spelled as the name is kept
  written : (d : Entry) → r < length z.entries → Alone r (key n) z.entries → (used d ≡ true → key_of d ≡ key n) → (used d ≡ true → in_order d ≡ true)
      → (used d ≡ true → name_of d.name ≡ kept n (spelling_of z (key n)))
      → (formed (wrote d) ≡ true) × (zone_of (wrote d) ≡ put n (view host_of d) (zone_of z)) × Spells n z (wrote d)
  written d h a k o s =
      let m : length (wrote d).entries ≡ 64 = simp length-set l in
      let f : formed (wrote d) ≡ true =
      formed_all (wrote d) m (order_set z.entries r d o (formed_order z g)) (distinct_set z.entries r d (key n) h a k (formed_names z g)) in (
        f,
        zone_eq (zone_of (wrote d)) (put n (view host_of d) (zone_of z)) (form_of (wrote d) f).names (named_put n (view host_of d) (zone_of z) (form_of z g).names)
            (λ m. looks m ∙ sym (put_has n (view host_of d) (zone_of z) m)),
        spells,
      )
    where
      looks : (m : Octets) → (zone_of (wrote d)).at m ≡ cond (same_octets (key n) m) (view host_of d) ((zone_of z).at m)
      looks m = unfold zone_of in with_set host_of z.entries r d (key n) h a k m

      spells : Spells n z (wrote d)
      spells m x e = go (same_dec (key n) m) (used d) refl (sym set_spelled ∙ e)
        where
          set_spelled : spelling_of (wrote d) m ≡ cond (same_octets (key n) m) (cond (used d) (some (name_of d.name)) none) (spelling_of z m)
          set_spelled = unfold spelling_of in with_set spells_as z.entries r d (key n) h a k m

          go : Dec (key n ≡ m) → (b : Bool) → used d ≡ b → cond (same_octets (key n) m) (cond (used d) (some (name_of d.name)) none) (spelling_of z m) ≡ some x → x ≡ kept n (spelling_of z m)
          go (yes q) true u t =
              let i : name_of d.name ≡ x = inside (rw (same_yes (key n) m q, u) at t) in
              sym i ∙ s u ∙ ap (λ (y : Octets). kept n (spelling_of z y)) q
          go (yes q) false u t = absurd (some≢none (sym (rw (same_yes (key n) m q, u) at t)))
          go (no q) b u t = sym (ap (kept n) (rw (same_no (key n) m q) at t))

  module _ (w : place_from (named n) 0 Nothing z.entries ≡ Some r) where
    pub found_below : r < 64
    found_below = let h = here_at (named n) b z.entries r w in let m = l in omega arith

    abbrev it : Entry
    it = get_or z.entries r b

    hit : (used it && same_octets (key_of it) (key n)) ≡ true
    hit = unfold named same_name in (here_at (named n) b z.entries r w).1

    alone : Alone r (key n) z.entries
    alone = alone_found z.entries r b (key n) (here_at (named n) b z.entries r w).0 hit (formed_names z g)

    pub found_used : used it ≡ true
    found_used = and_left (used it) (same_octets (key_of it) (key n)) hit

    pub found_order : in_order it ≡ true
    found_order = order_at z.entries r b (here_at (named n) b z.entries r w).0 found_used (formed_order z g)

    pub found_host : (zone_of z).at (key n) ≡ some (host_of it)
    unfolding zone_of
    found_host = with_found host_of z.entries r b (key n) (here_at (named n) b z.entries r w).0 alone hit

    found_spelled : spelling_of z (key n) ≡ some (name_of it.name)
    unfolding spelling_of
    found_spelled = with_found spells_as z.entries r b (key n) (here_at (named n) b z.entries r w).0 alone hit

    found_key : key_of it ≡ key n
    found_key = same_true (key_of it) (key n) (and_right (used it) (same_octets (key_of it) (key n)) hit)

    -- the host changed: an entry of the same kind and name
    pub found_changed : (d : Entry) → d.kind ≡ it.kind → d.name ≡ it.name → in_order d ≡ true
        → (formed (wrote d) ≡ true) × (zone_of (wrote d) ≡ put n (some (host_of d)) (zone_of z)) × Spells n z (wrote d)
    found_changed d k m o =
        let t : used d ≡ used it = unfold used in rw k refl in
        let u : used d ≡ true = t ∙ found_used in
        let e = written d (here_at (named n) b z.entries r w).0 alone (λ t. ap (λ (x : Name). key (name_of x)) m ∙ found_key) (λ t. o) (λ t. ap name_of m ∙ ap (kept n) (sym found_spelled)) in
        (e.0, e.1 ∙ ap (λ (v : Bool). put n (cond v (some (host_of d)) none) (zone_of z)) u, e.2)

    -- the place freed
    pub found_freed : (d : Entry) → d.kind ≡ 0 → (formed (wrote d) ≡ true) × (zone_of (wrote d) ≡ put n none (zone_of z)) × Spells n z (wrote d)
    found_freed d k =
        let u : used d ≡ false = unfold used in rw k refl in
        let e = written d (here_at (named n) b z.entries r w).0 alone (λ t. absurd (true≢false (sym t ∙ u))) (λ t. absurd (true≢false (sym t ∙ u))) (λ t. absurd (true≢false (sym t ∙ u))) in
        (e.0, e.1 ∙ ap (λ (v : Bool). put n (cond v (some (host_of d)) none) (zone_of z)) u, e.2)

  -- a name that does not stand
  absent_member : (zone_of z).at (key n) ≡ none → member (key n) (keys z.entries) ≡ false
  unfolding zone_of
  absent_member q = sym (with_keys host_of z.entries (key n)) ∙ ap there q

  absent_spelled : member (key n) (keys z.entries) ≡ false → spelling_of z (key n) ≡ none
  unfolding spelling_of
  absent_spelled c = with_absent spells_as z.entries (key n) c

  -- a free place
  module _ (w : place_from (λ (e : Entry). not (used e)) 0 Nothing z.entries ≡ Some r) where
    pub free_below : r < 64
    free_below = let h = here_at (λ (e : Entry). not (used e)) b z.entries r w in let m = l in omega arith

    pub free_written : (zone_of z).at (key n) ≡ none → (d : Entry) → used d ≡ true → name_of d.name ≡ n → in_order d ≡ true
        → (formed (wrote d) ≡ true) × (zone_of (wrote d) ≡ put n (some (host_of d)) (zone_of z)) × Spells n z (wrote d)
    free_written q d u k o =
        let p = here_at (λ (e : Entry). not (used e)) b z.entries r w in
        let c = absent_member q in
        let a = alone_free z.entries r b (key n) p.0 (not-true _ p.1) c in
        let e = written d p.0 a (λ t. ap key k) (λ t. o) (λ t. k ∙ ap (kept n) (sym (absent_spelled c))) in
        (e.0, e.1 ∙ ap (λ (v : Bool). put n (cond v (some (host_of d)) none) (zone_of z)) u, e.2)

    pub free_room : (zone_of z).at (key n) ≡ none → (d : Entry) → used d ≡ true → name_of d.name ≡ n → in_order d ≡ true → (zone_of z).size < 64
    free_room q d u k o =
        let e = free_written q d u k o in
        let c : (zone_of (wrote d)).size ≤ 64 = (form_of (wrote d) e.0).few in
        let s : (zone_of (wrote d)).size ≡ (zone_of z).size + 1 = ap (λ (x : rules.Zone). x.size) e.1 ∙ put_size n (some (host_of d)) (zone_of z) ∙ rw q (omega arith) in
        omega arith

-- nothing is found: the name does not stand, or no place is free
module _ (z : Zone) (g : formed z ≡ true) where
  pub not_found : (n : Octets) → place_from (named n) 0 Nothing z.entries ≡ Nothing → (zone_of z).at (key n) ≡ none
  unfolding zone_of
  not_found n w = with_absent host_of z.entries (key n) (none_member n z.entries (here_none (named n) blank z.entries w))

  pub no_room_lem : place_from (λ (e : Entry). not (used e)) 0 Nothing z.entries ≡ Nothing → 64 ≤ (zone_of z).size
  unfolding zone_of
  no_room_lem w =
      let m : length z.entries ≡ 64 = formed_places z g in
      let e = all_used z.entries (here_none (λ (x : Entry). not (used x)) blank z.entries w) in omega arith
