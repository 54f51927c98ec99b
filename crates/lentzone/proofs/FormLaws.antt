-- Octets that hold a zone of good form, and that a survey tells it. Assumes nothing.
use mathlib.Core.Path.{◌≡◌, ap}
use mathlib.Core.Bool.{true, ◌&&◌}
use mathlib.Core.List.{List}
use Prim.Native.Nat.{ℕ}
use native.Mathlib.Decide.{ℕ_discrete}
use lib.Dec.{eqb}
use lib.ListN.{length}
use borrow.Author.Tests.{eqb-true, eq-eqb, ne_eqb}
use Rattle.octets.proofs.BoolLaws.{and_left, and_right}
use Rattle.octets.specs.Count.{distinct}
use Rattle.zone.specs.declared.survey.Survey.{Survey}
use Rattle.zone.specs.Meaning.{keys, all_in_order, formed}
use Rattle.lentzone.specs.Decode.{zone_in, is_zone}
use Rattle.lentzone.specs.Inner.{SurveyedIn}

pub zone_octets : (z : List ℕ) → is_zone z ≡ true → length z ≡ 23936
unfolding is_zone
zone_octets z h = eqb-true (length z) 23936 (and_left (eqb (length z) 23936) (formed (zone_in z)) h)

pub zone_form : (z : List ℕ) → is_zone z ≡ true → formed (zone_in z) ≡ true
unfolding is_zone
zone_form z h = and_right (eqb (length z) 23936) (formed (zone_in z)) h

-- whichever name the survey is for
pub survey_zone : (z n : List ℕ) (s : Survey) → SurveyedIn z n s → (s.inorder && s.distinct) ≡ is_zone z
unfolding is_zone formed
survey_zone z n s v = go (ℕ_discrete (length z) 23936)
  where
    go : Dec (length z ≡ 23936) → (s.inorder && s.distinct) ≡ (eqb (length z) 23936 && (eqb (length (zone_in z).entries) 64 && (all_in_order (zone_in z).entries && distinct (keys (zone_in z).entries))))
    go (yes l) =
        let f = v.surveyed l in
        rw (eq-eqb (length z) 23936 l, eq-eqb (length (zone_in z).entries) 64 f.places.places_are, f.places.order_is, f.distinct_is)
    go (no m) =
        rw (ne_eqb (length z) 23936 m, ap (λ (x : Survey). x.inorder) (v.otherwise m))
