-- The laws of a walk over the places of one zone that looks for all that stands there in another. Assumes nothing.
use mathlib.Core.Path.{◌≡◌, refl, sym, ◌∙◌, ap}
use mathlib.Core.Bool.{Bool, true, false, cond, ◌&&◌, true≢false}
use mathlib.Core.List.{List, [], ◌∷◌}
use mathlib.Core.Option.{Option as Told, some}
use Rattle.std.specs.Prelude.{Option, Some, None}
use Prim.Native.Nat.{ℕ, ◌+◌, ◌≤◌, ◌<◌}
use native.Mathlib.Numerals.{add-one}
use lib.ListN.{length, get_or, drop, drop_of_length-le}
use lib.Seq.{drop-cons}
use borrow.Author.Tests.{eq-eqb}
use borrow.Table.Steps.{cases}
use Rattle.octets.proofs.BoolLaws.{and_both, and_left, and_right}
use Rattle.octets.proofs.CompareLaws.{same_self, same_true}
use Rattle.octets.specs.Compare.{same_octets}
use Rattle.octets.specs.Count.{Octets, member, distinct}
use Rattle.dname.specs.Name.{name_of}
use Rattle.zone.specs.declared.entry.Entry.{Entry}
use Rattle.zone.specs.Meaning.{used, key_of, keys, with_key, in_order, all_in_order, formed}
use Rattle.zone.specs.Survey.{records_of, named, place_from}
use Rattle.zone.proofs.SurveyLaws.{blank}
use Rattle.update.specs.Rules.{Host, there}
use Rattle.update.specs.Meaning.{host_of, zone_of}
use Rattle.update.proofs.ZoneLaws.{some≢none}
use Rattle.lentzone.specs.Decode.{zone_in, entry_in}
use Rattle.lentzone.specs.Inner.{place_in, row_at, records_at}
use Rattle.lentzone.proofs.PlaceLaws.{place_at}
use Rattle.request.proofs.PlaceLaws.{found_below, found_host, found_order, not_found, with_keys, with_here, with_past, head_once, tail_distinct}
use Rattle.zonesame.specs.Inner.{same_host, same_at, stands_in, all_stand}
use Rattle.zonesame.proofs.HostLaws.{host_told, host_tells}

-- ---- one place

module _ (z : List ℕ) (e : Entry) where
  pub stands_nowhere : place_in z (name_of e.name) ≡ None → false ≡ stands_in z e
  unfolding stands_in
  stands_nowhere q = sym (ap (same_at z e) q)

  pub stands_there : (at : ℕ) → place_in z (name_of e.name) ≡ Some at → (r : Bool) → r ≡ same_host (records_of e) (records_at z at) → r ≡ stands_in z e
  unfolding stands_in
  stands_there at q r s = s ∙ sym (ap (same_at z e) q)

-- ---- the walk

module _ (z : List ℕ) (es : List Entry) (d : Entry) (i : ℕ) (h : i < length es) where
  abbrev it : Entry
  it = get_or es i d

  step : all_stand z (drop i es) ≡ (cond (used it) (stands_in z it) true && all_stand z (drop (i + 1) es))
  unfolding all_stand
  step = rw (add-one, drop-cons es i d h)

  pub stand_free : used it ≡ false → all_stand z (drop i es) ≡ all_stand z (drop (i + 1) es)
  stand_free u = step ∙ rw u

  pub stand_hit : used it ≡ true → stands_in z it ≡ true → all_stand z (drop i es) ≡ all_stand z (drop (i + 1) es)
  stand_hit u s = step ∙ rw (u, s)

  pub stand_miss : used it ≡ true → stands_in z it ≡ false → all_stand z (drop i es) ≡ false
  stand_miss u s = step ∙ rw (u, s)

pub stand_end : (z : List ℕ) (es : List Entry) (i : ℕ) → length es ≤ i → all_stand z (drop i es) ≡ true
unfolding all_stand
stand_end z es i h = rw (drop_of_length-le es h)

-- ---- what it means, in a zone of good form

module _ (z : List ℕ) (l : length z ≡ 23936) (g : formed (zone_in z) ≡ true) where
  module _ (e : Entry) (o : in_order e ≡ true) where
    abbrev at : Option ℕ
    at = place_in z (name_of e.name)

    found : at ≡ place_from (named (name_of e.name)) 0 None (zone_in z).entries
    unfolding place_in
    found = rw (eq-eqb (length z) 23936 l)

    module _ (p : ℕ) (q : at ≡ Some p) where
      abbrev other : Entry
      other = get_or (zone_in z).entries p blank

      w : place_from (named (name_of e.name)) 0 None (zone_in z).entries ≡ Some p
      w = sym found ∙ q

      row : entry_in (row_at z p) ≡ other
      row = place_at z p l (found_below (zone_in z) g (name_of e.name) blank p w) blank

      host : (zone_of (zone_in z)).at (key_of e) ≡ some (host_of other)
      host = found_host (zone_in z) g (name_of e.name) blank p w

    pub stands_told : stands_in z e ≡ true → (zone_of (zone_in z)).at (key_of e) ≡ some (host_of e)
    unfolding stands_in
    stands_told t = go at refl t
      where
        go : (o : Option ℕ) → at ≡ o → same_at z e o ≡ true → (zone_of (zone_in z)).at (key_of e) ≡ some (host_of e)
        go None q s = absurd (true≢false (sym s))
        go (Some p) q s =
            let r = ap (λ (x : Entry). same_host (records_of e) (records_of x)) (sym (row p q)) ∙ s in
            host p q ∙ ap some (sym (host_told e (other p q) o (found_order (zone_in z) g (name_of e.name) blank p (w p q)) r))

    pub stands_tells : (zone_of (zone_in z)).at (key_of e) ≡ some (host_of e) → stands_in z e ≡ true
    unfolding stands_in
    stands_tells t = go at refl
      where
        go : (o : Option ℕ) → at ≡ o → same_at z e o ≡ true
        go None q = absurd (some≢none (sym t ∙ not_found (zone_in z) g (name_of e.name) (sym found ∙ q)))
        go (Some p) q =
            let k : ◌≡◌ {A = Told Host} (some (host_of e)) (some (host_of (other p q))) = sym t ∙ host p q in
            let r : host_of e ≡ host_of (other p q) = cc in
            ap (λ (x : Entry). same_host (records_of e) (records_of x)) (row p q) ∙ host_tells e (other p q) r

  -- what stands at a key among the places stands there in the zone
  abbrev pub Has : List Entry → Type 0
  Has es = (k : Octets) (h : Host) → with_key host_of es k ≡ some h → (zone_of (zone_in z)).at k ≡ some h

  pub all_told : (es : List Entry) → all_in_order es ≡ true → all_stand z es ≡ true → Has es
  unfolding all_in_order all_stand with_key
  all_told [] o t k h p = absurd (some≢none (sym p))
  all_told (e ∷ es) o t k h p =
      go (used e) (same_octets (key_of e) k) refl (and_left (cond (used e) (in_order e) true) (all_in_order es) o) (and_left (cond (used e) (stands_in z e) true) (all_stand z es) t) p
      (all_told es (and_right (cond (used e) (in_order e) true) (all_in_order es) o) (and_right (cond (used e) (stands_in z e) true) (all_stand z es) t) k h)
    where
      go : (b c : Bool) → same_octets (key_of e) k ≡ c → cond b (in_order e) true ≡ true → cond b (stands_in z e) true ≡ true → cond (b && c) (some (host_of e)) (with_key host_of es k) ≡ some h
          → (with_key host_of es k ≡ some h → (zone_of (zone_in z)).at k ≡ some h) → (zone_of (zone_in z)).at k ≡ some h
      go true true s q r w f = ap (zone_of (zone_in z)).at (sym (same_true (key_of e) k s)) ∙ stands_told e q r ∙ w
      go true false s q r w f = f w
      go false c s q r w f = f w

  pub all_tell : (es : List Entry) → all_in_order es ≡ true → distinct (keys es) ≡ true → Has es → all_stand z es ≡ true
  unfolding all_in_order all_stand
  all_tell [] o d f = refl
  all_tell (e ∷ es) o d f =
      and_both (cond (used e) (stands_in z e) true) (all_stand z es) (own (used e) refl (and_left (cond (used e) (in_order e) true) (all_in_order es) o))
      (all_tell es (and_right (cond (used e) (in_order e) true) (all_in_order es) o) (tail_distinct e es d) (λ k h p. f k h (behind k h p)))
    where
      own : (b : Bool) → used e ≡ b → cond b (in_order e) true ≡ true → cond b (stands_in z e) true ≡ true
      own true u q = stands_tells e q (f (key_of e) (host_of e) (with_here host_of e es (key_of e) (and_both (used e) _ u (same_self (key_of e)))))
      own false u q = refl

      -- a key that stands behind is not the one in front
      behind : (k : Octets) (h : Host) → with_key host_of es k ≡ some h → with_key host_of (e ∷ es) k ≡ some h
      behind k h p = cases (used e && same_octets (key_of e) k) twice (λ n. with_past host_of e es k n ∙ p)
        where
          twice : (used e && same_octets (key_of e) k) ≡ true → with_key host_of (e ∷ es) k ≡ some h
          twice t =
              let r : key_of e ≡ k = same_true (key_of e) k (and_right (used e) _ t) in
              absurd (true≢false (sym (ap there p) ∙ with_keys host_of es k ∙ ap (λ (x : Octets). member x (keys es)) (sym r) ∙ head_once e es (and_left (used e) _ t) d))
