-- The last place where a test holds, by the places behind it. Assumes nothing.
use mathlib.Core.Path.{◌≡◌, refl, sym, ◌∙◌, ap}
use mathlib.Core.Bool.{Bool, true, false, cond, not}
use mathlib.Core.List.{List, [], ◌∷◌, map}
use Rattle.std.specs.Prelude.{Option, Some, None}
use Prim.Native.Nat.{ℕ, zero, suc, ◌+◌, ◌<◌}
use native.Mathlib.Nat.{zero-add}
use native.Mathlib.Omega.{arith}
use lib.ListN.{length, get_or, length-map}
use Rattle.octets.specs.Count.{Octets}
use Rattle.zone.specs.declared.entry.Entry.{Entry}
use Rattle.zone.specs.declared.survey.Survey.{Survey}
use Rattle.zone.specs.Meaning.{used}
use Rattle.zone.specs.Survey.{place_from, Surveyed}
use Rattle.zone.proofs.SurveyLaws.{blank}
use Rattle.lentzone.specs.Decode.{entry_in}
use Rattle.lentzone.proofs.DecodeLaws.{row_free, row_used}

module _ {A : Type 0} (p : A → Bool) (d : A) where
  pub place_none : (l : List A) (i : ℕ) (otherwise : Option ℕ) → ((j : ℕ) → j < length l → p (get_or l j d) ≡ false) → place_from p i otherwise l ≡ otherwise
  unfolding place_from
  place_none [] i otherwise n = refl
  place_none (x ∷ l) i otherwise n =
      place_none l (suc i) (cond (p x) (Some i) otherwise) (λ j b. n (suc j) (omega arith)) ∙ ap (λ (b : Bool). cond b (Some i) otherwise) (n 0 (omega arith))

  pub place_last : (l : List A) (i : ℕ) (otherwise : Option ℕ) (k : ℕ) → k < length l → p (get_or l k d) ≡ true → ((j : ℕ) → k < j → j < length l → p (get_or l j d) ≡ false)
      → place_from p i otherwise l ≡ Some (i + k)
  unfolding place_from
  place_last [] i otherwise k h t n = absurd (omega arith)
  place_last (x ∷ l) i otherwise zero h t n =
      place_none l (suc i) (cond (p x) (Some i) otherwise) (λ j b. n (suc j) (omega arith) (omega arith))
      ∙ ap (λ (b : Bool). cond b (Some i) otherwise) t ∙ ap Some (let e : i ≡ i + 0 = omega arith in e)
  place_last (x ∷ l) i otherwise (suc k) h t n =
      place_last l (suc i) (cond (p x) (Some i) otherwise) k (omega arith) t (λ j b c. n (suc j) (omega arith) (omega arith))
      ∙ ap Some (let e : suc i + k ≡ i + suc k = omega arith in e)

-- a survey, the free place of which is found apart
pub with_free : (es : List Entry) (n : Octets) (s : Survey) → Surveyed (record { entries = es }) n s → (free : Option ℕ) → free ≡ place_from (λ (e : Entry). not (used e)) 0 None es
    → Surveyed (record { entries = es }) n (record { inorder = s.inorder; distinct = s.distinct; found = s.found; free = free })
with_free es n s v free q = record {
  places = record { places_are = v.places.places_are; order_is = v.places.order_is; found_is = v.places.found_is; free_is = q };
  distinct_is = v.distinct_is;
}

-- the last place whose first octet is 0, among places in octets
module _ (rs : List (List ℕ)) where
  abbrev free_at : ℕ → Type 0
  free_at i = get_or (get_or rs i []) 0 0 ≡ 0

  pub free_none : ((j : ℕ) → j < length rs → ¬ (free_at j)) → place_from (λ (e : Entry). not (used e)) 0 None (map entry_in rs) ≡ None
  free_none n =
      place_none (λ (e : Entry). not (used e)) blank (map entry_in rs) 0 None
      (λ j h. let k : j < length rs = rw (sym (length-map rs entry_in)) h in ap not (row_used rs j k [] (n j k)))

  pub free_last : (i : ℕ) → i < length rs → free_at i → ((j : ℕ) → i < j → j < length rs → ¬ (free_at j)) → place_from (λ (e : Entry). not (used e)) 0 None (map entry_in rs) ≡ Some i
  free_last i h e n =
      place_last (λ (x : Entry). not (used x)) blank (map entry_in rs) 0 None i (rw (length-map rs entry_in) h) (ap not (row_free rs i h [] e))
      (λ j g b. let k : j < length rs = rw (sym (length-map rs entry_in)) b in ap not (row_used rs j k [] (n j g k)))
      ∙ ap Some (zero-add i)
