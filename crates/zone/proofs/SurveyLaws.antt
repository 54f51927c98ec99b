-- The laws of a walk over the places of a zone. Assumes nothing.
use Rattle.std.proofs.Common.{◌≡◌, ℕ, zero, suc, ◌+◌, ◌<◌, ◌≤◌, Bool, true, false, cond, not, ◌&&◌, ◌||◌, ltb, leb, List, [], ◌∷◌, ◌++◌, map, length, get_or, take, drop, set, sym, refl, ap, ◌∙◌, true≢false, append_assoc, append-nil, add-zero, add-one, arith, drop_of_length-le, drop-cons, take-suc-set, ltb-true}
use Rattle.std.specs.Prelude.{Option, Some, None}
use Rattle.std.specs.List.{list_any}
use lib.ListN.{length-map}
use lib.Seq.{take-set-le}
use Rattle.dname.specs.Name.{key, same_name, name_of, is_full}
use Rattle.dname.proofs.NameLaws.{same_name_key, key_same_name}
use Rattle.octets.specs.Compare.{same_octets}
use Rattle.octets.specs.Count.{Octets, member, distinct}
use Rattle.octets.proofs.CountLaws.{one, member_here, member_on}
use Rattle.addresses.specs.Addresses.{list4, list6, sound}
use Rattle.zone.specs.declared.entry.Entry.{Entry}
use Rattle.zone.specs.declared.Zone.{Zone}
use Rattle.zone.specs.Meaning.{used, in_order, key_of, keys, all_in_order}
use Rattle.zone.specs.Survey.{named, place_from}
use Rattle.zone.specs.contracts.entry.Entry as place

-- an array of structs has its length by way of a map
pub places : (z : Zone) → length (map (place.the_field).into z.entries) ≡ 64 → length z.entries ≡ 64
places z e = sym (length-map z.entries (place.the_field).into) ∙ e

-- what a read past the end would give
abbrev pub blank : Entry
blank = record { kind = 0; name = record { octets = []; len = 0 }; dhcid = record { octets = [] }; v4 = record { items = []; count = 0 }; v6 = record { items = []; count = 0 } }

-- ---- one step of the walk

and_and : (a b c : Bool) → (a && (b && c)) ≡ ((a && b) && c)
and_and true b c = refl
and_and false b c = refl

module _ (es : List Entry) (d : Entry) (i : ℕ) (h : i < length es) where
  abbrev it : Entry
  it = get_or es i d

  pub order_step : (all inorder seen next : Bool) → seen ≡ cond (used it) (in_order it) true → next ≡ (inorder && seen)
      → all ≡ (inorder && all_in_order (drop i es)) → all ≡ (next && all_in_order (drop (i + 1) es))
  unfolding all_in_order
  order_step all inorder seen next s n e =
      let q : all_in_order (drop i es) ≡ (seen && all_in_order (drop (i + 1) es)) = rw (add-one, drop-cons es i d h, s) in
      e ∙ ap (λ (b : Bool). inorder && b) q ∙ and_and inorder seen (all_in_order (drop (i + 1) es)) ∙ ap (λ (b : Bool). b && all_in_order (drop (i + 1) es)) (sym n)

  pub place_step : (p : Entry → Bool) (otherwise : Option ℕ) (hit : Bool) (next : Option ℕ) → hit ≡ p it → next ≡ cond hit (Some i) otherwise
      → place_from p i otherwise (drop i es) ≡ place_from p (i + 1) next (drop (i + 1) es)
  unfolding place_from
  place_step p otherwise hit next e n = rw (add-one, drop-cons es i d h, n, e)

  pub free_step : (otherwise : Option ℕ) (seen : Bool) (next : Option ℕ) → seen ≡ used it → next ≡ cond seen otherwise (Some i)
      → place_from (λ (e : Entry). not (used e)) i otherwise (drop i es) ≡ place_from (λ (e : Entry). not (used e)) (i + 1) next (drop (i + 1) es)
  free_step otherwise seen next e n = place_step (λ (x : Entry). not (used x)) otherwise (not seen) next (ap not e) (n ∙ go seen)
    where
      go : (b : Bool) → cond b otherwise (Some i) ≡ cond (not b) (Some i) otherwise
      go true = refl
      go false = refl

  -- the fingerprint of a name that stands here is put behind the others; what is put for a free place does not count
  pub fingerprint_put : (f : Octets → ℕ) (fingerprints : List ℕ) (n fingerprint : ℕ) (seen : Bool) (more : ℕ) {r : List ℕ} → n < length fingerprints → seen ≡ used it
      → (used it ≡ true → fingerprint ≡ f (key_of it)) → more ≡ one seen
      → take n fingerprints ++ map f (keys (drop i es)) ≡ r → take (n + more) (set fingerprints n fingerprint) ++ map f (keys (drop (i + 1) es)) ≡ r
  unfolding keys
  fingerprint_put f fingerprints n fingerprint seen more {r} l s e m q =
      let w : take n fingerprints ++ map f (cond (used it) (key_of it ∷ keys (drop (i + 1) es)) (keys (drop (i + 1) es))) ≡ r =
      ap (λ (x : List Entry). take n fingerprints ++ map f (keys x)) (sym cons) ∙ q in
      ap (λ (x : ℕ). take (n + x) (set fingerprints n fingerprint) ++ map f (keys (drop (i + 1) es))) (m ∙ ap one s) ∙ go (used it) refl w
    where
      cons : drop i es ≡ it ∷ drop (i + 1) es
      cons = rw (add-one, drop-cons es i d h)

      go : (b : Bool) → used it ≡ b → take n fingerprints ++ map f (cond b (key_of it ∷ keys (drop (i + 1) es)) (keys (drop (i + 1) es))) ≡ r
          → take (n + one b) (set fingerprints n fingerprint) ++ map f (keys (drop (i + 1) es)) ≡ r
      go true u v = rw (add-one n, take-suc-set fingerprints n fingerprint l, append_assoc, e u) v
      go false u v = rw (add-zero n, take-set-le n fingerprints n fingerprint (omega arith)) v

  pub fingerprint_free : (f : Octets → ℕ) (l : List ℕ) {r : List ℕ} → used it ≡ false → l ++ map f (keys (drop i es)) ≡ r → l ++ map f (keys (drop (i + 1) es)) ≡ r
  unfolding keys
  fingerprint_free f l u q = let k : keys (drop i es) ≡ keys (drop (i + 1) es) = rw (add-one, drop-cons es i d h, u) in ap (λ (m : List Octets). l ++ map f m) (sym k) ∙ q

  pub named_free : (n : Octets) → used it ≡ false → false ≡ named n it
  unfolding named
  named_free n u = rw u

  pub order_free : used it ≡ false → true ≡ cond (used it) (in_order it) true
  order_free u = rw u

  -- a used place, from what was found of its parts
  pub order_used : used it ≡ true → (fine full sets : Bool) → fine ≡ (leb it.kind 2 && (full && sets)) → full ≡ is_full (name_of it.name)
      → sets ≡ (sound it.v4.count (list4 it.v4) && sound it.v6.count (list6 it.v6)) → fine ≡ cond (used it) (in_order it) true
  unfolding in_order
  order_used u fine full sets e f g = e ∙ ap (λ (b : Bool). leb it.kind 2 && (b && sets)) f ∙ ap (λ (b : Bool). leb it.kind 2 && (is_full (name_of it.name) && b)) g ∙ sym (rw u)

  pub named_used : used it ≡ true → (n : Octets) (hit : Bool) → hit ≡ same_name (name_of it.name) n → hit ≡ named n it
  unfolding named
  named_used u n hit e = e ∙ sym (rw u)

-- ---- its end

module _ (es : List Entry) (i : ℕ) (h : length es ≤ i) where
  pub order_end : (all inorder : Bool) → all ≡ (inorder && all_in_order (drop i es)) → inorder ≡ all
  unfolding all_in_order
  order_end all inorder e = go inorder ∙ sym (e ∙ rw (drop_of_length-le es h))
    where
      go : (b : Bool) → b ≡ (b && true)
      go true = refl
      go false = refl

  pub place_end : (p : Entry → Bool) (otherwise : Option ℕ) → place_from p i otherwise (drop i es) ≡ otherwise
  unfolding place_from
  place_end p otherwise = rw (drop_of_length-le es h)

  pub fingerprint_end : (f : Octets → ℕ) (l : List ℕ) {r : List ℕ} → l ++ map f (keys (drop i es)) ≡ r → l ≡ r
  unfolding keys
  fingerprint_end f l {r} q =
      let e : map f (keys (drop i es)) ≡ [] = rw (drop_of_length-le es h) in
      sym (append-nil l) ∙ ap (λ (m : List ℕ). l ++ m) (sym e) ∙ q

-- ---- the place that is read at the end

pub chosen_below : (found : ℕ) → cond (ltb found 64) found 0 < 64
chosen_below found = go (ltb found 64) refl
  where
    go : (b : Bool) → ltb found 64 ≡ b → cond b found 0 < 64
    go true q = ltb-true found 64 q
    go false q = omega arith

pub get_d_any : {A : Type 0} (l : List A) (i : ℕ) (d e : A) → i < length l → get_or l i d ≡ get_or l i e
get_d_any [] i d e h = absurd (omega arith)
get_d_any (x ∷ l) zero d e h = refl
get_d_any (x ∷ l) (suc i) d e h = get_d_any l i d e (omega arith)

-- ---- name by name

module _ (es : List Entry) (d : Entry) (i : ℕ) (h : i < length es) where
  abbrev one_place : Entry
  one_place = get_or es i d

  keys_step : keys (drop i es) ≡ cond (used one_place) (key_of one_place ∷ keys (drop (i + 1) es)) (keys (drop (i + 1) es))
  unfolding keys
  keys_step = rw (add-one, drop-cons es i d h)

  pub named_hit : (n : Octets) → named n one_place ≡ true → member (key n) (keys (drop i es)) ≡ true
  named_hit n t = ap (member (key n)) keys_step ∙ go (used one_place) (unfold named in t)
    where
      go : (b : Bool) → (b && same_name (name_of one_place.name) n) ≡ true → member (key n) (cond b (key_of one_place ∷ keys (drop (i + 1) es)) (keys (drop (i + 1) es))) ≡ true
      go true s = member_here (key n) (key_of one_place) (keys (drop (i + 1) es)) (same_name_key (name_of one_place.name) n s)
      go false s = absurd (true≢false (sym s))

  pub named_miss : (n : Octets) → named n one_place ≡ false → member (key n) (keys (drop i es)) ≡ member (key n) (keys (drop (i + 1) es))
  named_miss n t = ap (member (key n)) keys_step ∙ go (used one_place) (unfold named in t)
    where
      go : (b : Bool) → (b && same_name (name_of one_place.name) n) ≡ false → member (key n) (cond b (key_of one_place ∷ keys (drop (i + 1) es)) (keys (drop (i + 1) es))) ≡ member (key n) (keys (drop (i + 1) es))
      go true s = member_on (key n) (key_of one_place) (keys (drop (i + 1) es)) (λ e. true≢false (sym (key_same_name (name_of one_place.name) n e) ∙ s))
      go false s = refl

  pub distinct_free : used one_place ≡ false → distinct (keys (drop i es)) ≡ distinct (keys (drop (i + 1) es))
  distinct_free u = ap distinct keys_step ∙ rw u

  pub distinct_twice : used one_place ≡ true → member (key_of one_place) (keys (drop (i + 1) es)) ≡ true → distinct (keys (drop i es)) ≡ false
  unfolding distinct
  distinct_twice u m = ap distinct keys_step ∙ rw (u, m)

  pub distinct_once : used one_place ≡ true → member (key_of one_place) (keys (drop (i + 1) es)) ≡ false → distinct (keys (drop i es)) ≡ distinct (keys (drop (i + 1) es))
  unfolding distinct
  distinct_once u m = ap distinct keys_step ∙ rw (u, m)

module _ (es : List Entry) (i : ℕ) (h : length es ≤ i) where
  keys_end : keys (drop i es) ≡ []
  unfolding keys
  keys_end = rw (drop_of_length-le es h)

  pub named_end : (k : Octets) → member k (keys (drop i es)) ≡ false
  unfolding member
  named_end k = rw keys_end

  pub distinct_end : distinct (keys (drop i es)) ≡ true
  unfolding distinct
  distinct_end = rw keys_end

-- the same of the places themselves, looked at one by one
pub any_named : (n : Octets) (es : List Entry) → list_any (named n) es ≡ member (key n) (keys es)
unfolding named keys member same_name
any_named n [] = refl
any_named n (e ∷ es) = go (used e) (any_named n es)
  where
    go : (b : Bool) → list_any (named n) es ≡ member (key n) (keys es)
        → ((b && same_octets (key_of e) (key n)) || list_any (named n) es) ≡ member (key n) (cond b (key_of e ∷ keys es) (keys es))
    go true h = ap (λ (v : Bool). same_octets (key_of e) (key n) || v) h
    go false h = h

module _ (all rest : List Entry) (so_far : distinct (keys all) ≡ distinct (keys rest)) where
  module _ (e : Entry) (behind : List Entry) (is : rest ≡ e ∷ behind) where
    first : distinct (keys all) ≡ distinct (keys (e ∷ behind))
    first = so_far ∙ ap (λ (m : List Entry). distinct (keys m)) is

    pub pair_found : used e ≡ true → member (key_of e) (keys behind) ≡ true → false ≡ distinct (keys all)
    pair_found u m = sym (first ∙ distinct_twice (e ∷ behind) e 0 (omega arith) u m)

    pub pair_not : used e ≡ true → member (key_of e) (keys behind) ≡ false → distinct (keys all) ≡ distinct (keys behind)
    pair_not u m = first ∙ distinct_once (e ∷ behind) e 0 (omega arith) u m

    pub pair_free : used e ≡ false → distinct (keys all) ≡ distinct (keys behind)
    pair_free u = first ∙ distinct_free (e ∷ behind) e 0 (omega arith) u

  pub pair_end : length rest ≡ 0 → true ≡ distinct (keys all)
  pair_end h = sym (so_far ∙ distinct_end rest 0 (omega arith))
