-- The place that a survey finds is the place with the name's key, and says what stands there. Assumes nothing.
use mathlib.Core.Path.{◌≡◌, refl, sym, ◌∙◌, ap}
use mathlib.Core.Bool.{Bool, true, false, cond, ◌&&◌, true≢false}
use mathlib.Core.List.{List, [], ◌∷◌}
use mathlib.Core.Option.{some}
use Rattle.std.specs.Prelude.{Option, Some, None, Result, Ok, Err}
use Rattle.std.specs.Result.{IsErr}
use Rattle.request.specs.declared.refusal.Refusal.{Refusal}
use Rattle.request.specs.declared.refusal.Refusal.TheVariants.{Form, Number, Name}
use Rattle.request.specs.Answers.{refusal_number, refused}
use Rattle.zonefind.specs.Inner.{told, Located}
use Prim.Native.Nat.{ℕ, zero, suc, ◌≤◌, ◌<◌}
use native.Mathlib.Omega.{arith}
use lib.ListN.{length, get_or}
use borrow.Author.Tests.{eq-eqb, ne_eqb}
use borrow.Table.Steps.{cases}
use Rattle.octets.specs.Compare.{same_octets}
use Rattle.octets.specs.Count.{Octets}
use Rattle.dname.specs.Name.{name_of, is_full, key, same_name}
use Rattle.zone.specs.Meaning.{used, key_of, formed, with_key}
use Rattle.zone.specs.Survey.{named, place_from, Surveyed}
use Rattle.zone.specs.declared.entry.Entry.{Entry}
use Rattle.zone.specs.declared.survey.Survey.{Survey}
use Rattle.zone.proofs.SurveyLaws.{blank}
use Rattle.update.specs.Meaning.{host_of, zone_of}
use Rattle.lentzone.specs.Decode.{entry_in, zone_in, is_zone}
use Rattle.lentzone.specs.Inner.{SurveyedIn, row_at}
use Rattle.lentzone.proofs.FormLaws.{zone_octets, zone_form}
use Rattle.lentzone.proofs.PlaceLaws.{row_no_place, place_at}
use Rattle.request.proofs.PlaceLaws.{Alone, None as Nowhere, here_at, here_none, alone_found, found_below, formed_names}
use Rattle.zonefind.specs.Find.{find_refusal, free_place, place_with, find_entry, standing, SaysWhatStands}

-- ---- the place with a key

says_host : (k : Octets) (es : List Entry) → standing (place_with k es) ≡ with_key host_of es k
unfolding place_with with_key
says_host k [] = unfold used in refl
says_host k (e ∷ es) = go (used e) refl (same_octets (key_of e) k) (says_host k es)
  where
    go : (b : Bool) → used e ≡ b → (c : Bool) → standing (place_with k es) ≡ with_key host_of es k → standing (cond (b && c) e (place_with k es)) ≡ cond (b && c) (some (host_of e)) (with_key host_of es k)
    go true u true h = rw u
    go true u false h = h
    go false u c h = h

with_past : (k : Octets) (e : Entry) (es : List Entry) → (used e && same_octets (key_of e) k) ≡ false → place_with k (e ∷ es) ≡ place_with k es
unfolding place_with
with_past k e es h = rw h

with_here : (k : Octets) (e : Entry) (es : List Entry) → (used e && same_octets (key_of e) k) ≡ true → place_with k (e ∷ es) ≡ e
unfolding place_with
with_here k e es h = rw h

with_found : (es : List Entry) (i : ℕ) (d : Entry) (k : Octets) → i < length es → Alone i k es → (used (get_or es i d) && same_octets (key_of (get_or es i d)) k) ≡ true → place_with k es ≡ get_or es i d
with_found [] i d k p a u = absurd (omega arith)
with_found (e ∷ es) zero d k p a u = with_here k e es u
with_found (e ∷ es) (suc i) d k p a u = with_past k e es a.0 ∙ with_found es i d k (omega arith) a.1 u

with_none : (n : Octets) (es : List Entry) → Nowhere (named n) es → place_with (key n) es ≡ free_place
with_none n [] h = unfold place_with in refl
with_none n (e ∷ es) h = with_past (key n) e es (unfold named same_name in h.0) ∙ with_none n es h.1

-- ---- by a survey

module _ (z : List ℕ) (n : Octets) (s : Survey) (v : SurveyedIn z n s) where
  -- the place found has the name's key, and where none is found none has it
  module _ (f : is_zone z ≡ true) where
    size : length z ≡ 23936
    size = zone_octets z f

    form : formed (zone_in z) ≡ true
    form = zone_form z f

    abbrev es : List Entry
    es = (zone_in z).entries

    seen : Surveyed (zone_in z) n s
    seen = v.surveyed size

    found_there : (p : ℕ) → s.found ≡ Some p → entry_in (row_at z p) ≡ place_with (key n) es
    unfolding named same_name
    found_there p h =
        let w : place_from (named n) 0 None es ≡ Some p = sym seen.places.found_is ∙ h in
        let q = here_at (named n) blank es p w in
        let u : (used (get_or es p blank) && same_octets (key_of (get_or es p blank)) (key n)) ≡ true = q.1 in
        place_at z p size (found_below (zone_in z) form n blank p w) blank
        ∙ sym (with_found es p blank (key n) q.0 (alone_found es p blank (key n) q.0 u (formed_names (zone_in z) form)) u)

    found_nowhere : s.found ≡ None → free_place ≡ place_with (key n) es
    found_nowhere h = sym (with_none n es (here_none (named n) blank es (sym seen.places.found_is ∙ h)))

-- ---- the refusal

module _ (z : List ℕ) (n : Octets) where
  pub refusal_is_lem : (form full : Bool) → form ≡ is_zone z → full ≡ is_full n → cond form (cond full 0 11) 17 ≡ find_refusal z n
  unfolding find_refusal
  refusal_is_lem form full p q = ap (λ (b : Bool). cond b (cond full 0 11) 17) p ∙ ap (λ (b : Bool). cond (is_zone z) (cond b 0 11) 17) q

  not_refused : find_refusal z n ≡ 0 → is_zone z ≡ true
  unfolding find_refusal
  not_refused e = cases (is_zone z) (λ t. t) (λ t. let k : ◌≡◌ {A = ℕ} 17 0 = sym (rw t) ∙ e in absurd (omega arith))

  -- the place of the survey where nothing is refused, and no place where something is
  module _ (s : Survey) (v : SurveyedIn z n s) (e : find_refusal z n ≡ 0) where
    pub entry_found : (p : ℕ) → s.found ≡ Some p → entry_in (row_at z p) ≡ find_entry z n
    unfolding find_entry
    entry_found p h = found_there z n s v (not_refused e) p h ∙ sym (rw (eq-eqb (find_refusal z n) 0 e))

    pub entry_absent : s.found ≡ None → entry_in (row_at z 64) ≡ find_entry z n
    unfolding find_entry
    entry_absent h = ap entry_in (sym (row_no_place z 64 (omega arith))) ∙ found_nowhere z n s v (not_refused e) h ∙ sym (rw (eq-eqb (find_refusal z n) 0 e))

  pub entry_refused : (find_refusal z n ≡ 0 → ⊥) → entry_in (row_at z 64) ≡ find_entry z n
  unfolding find_entry
  entry_refused e = ap entry_in (sym (row_no_place z 64 (omega arith))) ∙ sym (rw (ne_eqb (find_refusal z n) 0 e))

-- ---- what is located

nonzero : (r : Refusal) → refusal_number r ≡ 0 → ⊥
nonzero Form e = omega arith
nonzero Number e = omega arith
nonzero Name e = omega arith

module _ (z : List ℕ) (n : Octets) where
  pub located_refused : (r : Result (Option ℕ) Refusal) → IsErr r → refused r ≡ find_refusal z n → Located z n r
  located_refused (Ok x) h e = absurd (true≢false (sym h))
  located_refused (Err r) h e = record { refusal_is = e; entry_is = entry_refused z n (λ q. nonzero r (e ∙ q)) }

  pub located : (s : Survey) → SurveyedIn z n s → 0 ≡ find_refusal z n → Located z n (Ok s.found)
  located s v e = record { refusal_is = e; entry_is = go s.found refl }
    where
      go : (o : Option ℕ) → s.found ≡ o → entry_in (row_at z (told (Ok o))) ≡ find_entry z n
      go None h = entry_absent z n s v (sym e) h
      go (Some p) h = entry_found z n s v (sym e) p h

-- ---- the claim

pub says_what_stands : SaysWhatStands
unfolding find_entry zone_of
says_what_stands z n e = rw (eq-eqb (find_refusal z (name_of n)) 0 e) (says_host (key (name_of n)) (zone_in z).entries)
