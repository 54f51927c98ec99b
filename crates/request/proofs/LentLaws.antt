-- What a call's promise on a lent zone is made of. Assumes nothing.
use mathlib.Core.Path.{◌≡◌, refl, sym, ◌∙◌, ap, subst}
use mathlib.Core.List.{List}
use Rattle.std.specs.Prelude.{Option as Maybe, Some}
use Prim.Native.Nat.{ℕ, ◌<◌}
use native.Mathlib.Decide.{ℕ_discrete}
use native.Mathlib.Omega.{arith}
use lib.ListN.{length, get_or}
use borrow.Author.Tests.{eq-eqb, ne_eqb}
use Rattle.octets.specs.Count.{Octets}
use Rattle.dname.specs.declared.name.Name.{Name}
use Rattle.zone.specs.declared.entry.Entry.{Entry}
use Rattle.zone.specs.declared.entry.Records.{Records}
use Rattle.zone.specs.declared.Zone.{Zone}
use Rattle.zone.specs.declared.survey.Survey.{Survey}
use Rattle.dname.specs.Name.{name_of}
use Rattle.zone.specs.Survey.{Surveyed, place_of, records_of}
use Rattle.zone.proofs.SurveyLaws.{blank}
use Rattle.update.specs.Rules as rules
use Rattle.update.specs.Rules.{Outcome}
use Rattle.update.specs.Meaning.{zone_of}
use Rattle.lentzone.specs.Decode.{zone_in}
use Rattle.lentzone.specs.Inner.{SurveyedIn, records_at, name_at, Written}
use Rattle.lentzone.proofs.DecodeLaws.{one_place_same}
use Rattle.lentzone.proofs.PlaceLaws.{place_at as place_at_lem}
use Rattle.request.specs.declared.answer.Answer.{Answer as Said}
use Rattle.request.specs.declared.decide.Standing.{Standing}
use Rattle.request.specs.declared.decide.Change.TheVariants.{Stays, Writes}
use Rattle.request.specs.Promise.{number_of, refusal_of, Promised}
use Rattle.request.specs.Lent.{refusal_in, answered, PromisedIn}
use Rattle.request.specs.Inner.{Decided, place_at, Seen, StandingIn, Adds, Decides, Refuses}
use Rattle.request.specs.Answers.{means}
use Rattle.request.proofs.PromiseLaws.{Passed, not_refused, no_place, promise_done, decided_as}
use Rattle.request.proofs.PlaceLaws.{formed_places, found_below}

module _ (z : List ℕ) (n : Octets) (family policy : ℕ) where
  pub refusal_size : ¬ (length z ≡ 23936) → 17 ≡ refusal_in z n family policy
  unfolding refusal_in
  refusal_size h = sym (rw (ne_eqb (length z) 23936 h))

  pub refusal_in_lem : length z ≡ 23936 → refusal_of (zone_in z) n family policy ≡ refusal_in z n family policy
  unfolding refusal_in
  refusal_in_lem l = sym (rw (eq-eqb (length z) 23936 l))

  -- by a survey
  module _ (s : Survey) (k : ℕ) (v : SurveyedIn z n s) (r : Refuses n family policy s k) where
    pub refused_in : k ≡ refusal_in z n family policy
    refused_in = go (ℕ_discrete (length z) 23936)
      where
        go : Dec (length z ≡ 23936) → k ≡ refusal_in z n family policy
        go (yes l) = r.refuses (zone_in z) (v.surveyed l) ∙ refusal_in_lem l
        go (no m) = r.broken (ap (λ (x : Survey). x.inorder) (v.otherwise m)) ∙ refusal_size m

  pub zone_there : refusal_in z n family policy ≡ 0 → length z ≡ 23936
  zone_there q = go (ℕ_discrete (length z) 23936)
    where
      go : Dec (length z ≡ 23936) → length z ≡ 23936
      go (yes l) = l
      go (no m) = let e : ◌≡◌ {A = ℕ} 17 0 = refusal_size m ∙ q in absurd (omega arith)

  module _ (request : rules.Zone → Outcome) where
    abbrev refusal : ℕ
    refusal = refusal_in z n family policy

    pub promised_refused : (k : ℕ) → k ≡ refusal → ¬ (k ≡ 0) → PromisedIn z n refusal request z (record { refusal = k; answer = 0 })
    promised_refused k p d =
        let m : ¬ (refusal ≡ 0) = λ q. d (p ∙ q) in
        record {
          size = refl;
          same = λ q. refl;
          unchanged = λ q. refl;
          elsewhere = one_place_same z;
          promised = record { refusal_is = p; answer_is = rw (ne_eqb refusal 0 m); kept = λ q. refl; unchanged = λ q. refl; done = λ q. absurd (m q); formed_again = λ q. absurd (m q); spelled = λ q. absurd (m q) };
        }

    module _ (r : refusal ≡ 0) where
      pub by_value : refusal_of (zone_in z) n family policy ≡ 0
      by_value = refusal_in_lem (zone_there r) ∙ r

      pub promised_done : (answer place : ℕ) (e : Entry) (after : List ℕ) → Decided n (zone_in z) (request (zone_of (zone_in z))) answer place e → Written z place e after
          → PromisedIn z n refusal request after (record { refusal = 0; answer = answer })
      promised_done answer place e after c t =
          record {
            size = t.size;
            same = λ m. absurd (m r);
            unchanged = λ m. let h : ¬ (place < 64) = λ h. c.needed h m in t.stays (omega arith);
            elsewhere = t.elsewhere;
            promised =
                subst (λ (k : ℕ). Promised (zone_in z) n k (request (zone_of (zone_in z))) (answered after (record { refusal = 0; answer = answer }))) (refusal_in_lem (zone_there r))
                (subst (λ (x : Zone). Promised (zone_in z) n (refusal_of (zone_in z) n family policy) (request (zone_of (zone_in z))) (record { refusal = 0; answer = answer; zone = x })) (sym (t.writes (zone_there r)))
                (promise_done (zone_in z) n family policy request answer place e by_value c));
          }

      -- nothing is written
      pub promised_stays : (answer : ℕ) → ((e : Entry) → Decided n (zone_in z) (request (zone_of (zone_in z))) answer 64 e) → PromisedIn z n refusal request z (record { refusal = 0; answer = answer })
      promised_stays answer c =
          promised_done answer 64 blank z (c blank)
          (record {
            size = refl;
            no_zone = λ m. refl;
            stays = λ m. refl;
            elsewhere = one_place_same z;
            writes = λ l. sym (no_place (zone_in z) 64 blank (formed_places (zone_in z) (not_refused (zone_in z) n family policy by_value).form) (omega arith));
          })

-- ---- decisions, and one place written

module _ (z : List ℕ) (n : Name) (family policy : ℕ) (s : Survey) (v : SurveyedIn z (name_of n) s) (q : refusal_in z (name_of n) family policy ≡ 0) (request : Name → rules.Zone → Outcome) where
  abbrev Kept : List ℕ → ℕ → Type 0
  Kept after answer = PromisedIn z (name_of n) (refusal_in z (name_of n) family policy) (request n) after (record { refusal = 0; answer = answer })

  size : length z ≡ 23936
  size = zone_there z (name_of n) family policy q

  passes : Passed (zone_in z) (name_of n) family policy
  passes = not_refused (zone_in z) (name_of n) family policy (by_value z (name_of n) family policy (request n) q)

  surveyed : Surveyed (zone_in z) (name_of n) s
  surveyed = v.surveyed size

  -- ---- request A
  pub adds_stays : (a : Said) → Adds request s (Stays a) → Kept z (number_of (means a))
  adds_stays a d = promised_stays z (name_of n) family policy (request n) q _ (d.adds (zone_in z) n passes.form passes.name surveyed.places)

  pub promised_adds : (p : ℕ) (r : Records) (after : List ℕ) → Adds request s (Writes p r) → Written z p (place_of n r) after → Kept after 0
  promised_adds p r after d t = promised_done z (name_of n) family policy (request n) q 0 p (place_of n r) after (d.adds (zone_in z) n passes.form passes.name surveyed.places).1 t

  -- ---- any other
  module _ (o : Maybe Standing) (f : StandingIn z s.found o) where
    -- a place found is one of the 64
    inside : (p : ℕ) → place_at o ≡ Some p → p < 64
    inside p h = found_below (zone_in z) passes.form (name_of n) blank p (sym (f.0 ∙ surveyed.places.found_is) ∙ h)

    seen : Seen (zone_in z) n blank o
    seen = record {
      form = passes.form;
      found_is = f.0 ∙ surveyed.places.found_is;
      records_is = λ t h. f.1 t h ∙ ap records_of (place_at_lem z t.place size (inside t.place (ap place_at h)) blank);
    }

    pub decides_stays : (a : Said) → Decides request o (Stays a) → Kept z (number_of (means a))
    decides_stays a d = promised_stays z (name_of n) family policy (request n) q _ (d.decides (zone_in z) n blank seen)

    pub promised_decides : (p : ℕ) (r : Records) (after : List ℕ) → Decides request o (Writes p r) → Written z p (place_of (name_at z p) r) after → Kept after 0
    promised_decides p r after d t =
        promised_done z (name_of n) family policy (request n) q 0 p (place_of (name_at z p) r) after
        (decided_as (place_of (get_or (zone_in z).entries p blank).name r) (place_of (name_at z p) r)
        (λ h. ap (λ (x : Entry). place_of x.name r) (sym (place_at_lem z p size h blank)))
        (d.decides (zone_in z) n blank seen).1)
        t
