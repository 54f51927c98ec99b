-- From what was visited to a call's promise, and a promise of one request as that of another. Assumes nothing.
use mathlib.Core.Path.{◌≡◌, sym, ◌∙◌, ap, subst}
use mathlib.Core.Bool.{Bool, true, false, cond, ◌&&◌}
use mathlib.Core.List.{List}
use Rattle.std.specs.Prelude.{Option as Maybe}
use Prim.Native.Nat.{ℕ}
use lib.Dec.{eqb}
use lib.ListN.{length}
use borrow.Author.Tests.{eq-eqb}
use Rattle.octets.specs.Count.{Octets, distinct}
use Rattle.dname.specs.declared.name.Name.{Name}
use Rattle.dname.specs.Name.{name_of, is_full}
use Rattle.zone.specs.declared.Zone.{Zone}
use Rattle.zone.specs.declared.entry.Records.{Records}
use Rattle.zone.specs.declared.survey.Visit.{Visit}
use Rattle.zone.specs.Meaning.{keys, all_in_order, formed}
use Rattle.zone.specs.Survey.{Visited, records_of}
use Rattle.update.specs.Rules as rules
use Rattle.update.specs.Rules.{Outcome}
use Rattle.update.specs.Meaning.{zone_of}
use Rattle.update.specs.Spelling.{spelling_of, respelled}
use Rattle.lentzone.specs.Decode.{zone_in}
use Rattle.request.specs.declared.Answered.{Answered}
use Rattle.request.specs.declared.decide.Change.{Change}
use Rattle.request.specs.declared.decide.Standing.{Standing}
use Rattle.request.specs.declared.lent.RequestAnswer.{RequestAnswer}
use Rattle.request.specs.Promise.{number_of, refusal_of, Promised}
use Rattle.request.specs.Lent.{refusal_in, answered, PromisedIn}
use Rattle.request.specs.Inner.{settled, place_at, standing, Changes, Adds, Decides}
use Rattle.request.proofs.PromiseLaws.{refusal_form, not_refused, promise_changed, changes_visited}

-- ---- a zone whose places are not in order is refused

module _ (z : Zone) (n : Octets) (family policy : ℕ) (inorder : Bool) (l : length z.entries ≡ 64) (p : inorder ≡ all_in_order z.entries) where
  formed_is : formed z ≡ (inorder && distinct (keys z.entries))
  unfolding formed
  formed_is = rw (eq-eqb (length z.entries) 64 l, p)

  pub refused_order : inorder ≡ false → 17 ≡ refusal_of z n family policy
  refused_order o = sym (refusal_form z n family policy (formed_is ∙ rw o))

-- ---- a request with the same outcome has the same promise

module _ (z : Zone) (n : Octets) (family policy : ℕ) (request : rules.Zone → Outcome) where
  abbrev refusal : ℕ
  refusal = refusal_of z n family policy

  pub promise_same : (other : rules.Zone → Outcome) (r q : Answered) → other (zone_of z) ≡ request (zone_of z) → q ≡ r → Promised z n refusal (request (zone_of z)) r → Promised z n refusal (other (zone_of z)) q
  promise_same other r q e f p =
      record {
        refusal_is = ap (λ (a : Answered). a.refusal) f ∙ p.refusal_is;
        answer_is = ap (λ (a : Answered). a.answer) f ∙ p.answer_is ∙ ap (λ (o : Outcome). cond (eqb refusal 0) (number_of o.answer) 0) (sym e);
        kept = λ k. ap (λ (a : Answered). a.zone) f ∙ p.kept k;
        unchanged = λ k. ap (λ (a : Answered). a.zone) f ∙ p.unchanged (ap (λ (o : Outcome). o.zone) (sym e) ∙ k);
        done = λ k. ap (λ (a : Answered). zone_of a.zone) f ∙ p.done k ∙ ap (λ (o : Outcome). o.zone) (sym e);
        formed_again = λ k. ap (λ (a : Answered). formed a.zone) f ∙ p.formed_again k;
        spelled = λ k. ap (λ (a : Answered). spelling_of a.zone) f ∙ p.spelled k ∙ ap (λ (o : Outcome). respelled n o.zone (spelling_of z)) (sym e);
      }

-- the same where the zone is lent
module _ (z : List ℕ) (n : Octets) (family policy : ℕ) (request : rules.Zone → Outcome) where
  abbrev refusal_lent : ℕ
  refusal_lent = refusal_in z n family policy

  pub promised_same : (other : rules.Zone → Outcome) (after : List ℕ) (r : RequestAnswer) → ((x : rules.Zone) → other x ≡ request x) → PromisedIn z n refusal_lent request after r → PromisedIn z n refusal_lent other after r
  promised_same other after r e p = record {
    size = p.size;
    same = p.same;
    unchanged = λ k. p.unchanged (ap (λ (o : Outcome). o.zone) (sym (e (zone_of (zone_in z)))) ∙ k);
    elsewhere = p.elsewhere;
    promised = subst (λ (o : Outcome). Promised (zone_in z) n refusal_lent o (answered after r)) (sym (e (zone_of (zone_in z)))) p.promised;
  }

-- ---- what was visited

-- a change on what was visited, at a place and under a name: right for every zone in form that the visit is of, if the name is full
pub record Comes (request : rules.Zone → Outcome) (n : Octets) (v : Visit) (place : Maybe ℕ) (name : Name) (w : Change) : Type 0 where
  pub comes : (z : Zone) → formed z ≡ true → is_full n ≡ true → Visited z n v → Changes n z (request (zone_of z)) place (λ p. name) w

-- a request that adds a name comes to its change at the free place
pub visit_adds : (request : Name → rules.Zone → Outcome) (n : Name) (v : Visit) (w : Change) → Adds request v.survey w → Comes (request n) (name_of n) v v.survey.free n w
visit_adds request n v w d = record { comes = λ z g m t. d.adds z n g m t.surveyed.places }

-- any other comes to its change at the place found, under the name that stands there
pub visit_decides : (request : Name → rules.Zone → Outcome) (n : Name) (v : Visit) (e : Records) (s : Maybe Standing) (w : Change) → e ≡ records_of v.entry → s ≡ standing v.survey.found e
    → Decides request s w → Comes (request n) (name_of n) v (place_at (standing v.survey.found e)) v.entry.name w
visit_decides request n v e s w f i d = record { comes = λ z g m t. changes_visited z n v g t request w e f s i d }

-- and what it comes to is what is promised of the zone that was visited
pub promise_visited : (z : Zone) (n : Octets) (family policy : ℕ) (request : rules.Zone → Outcome) (k : ℕ) (v : Visit) (place : Maybe ℕ) (name : Name) (w : Change) → k ≡ refusal_of z n family policy → k ≡ 0
    → Visited z n v → Comes request n v place name w → Promised z n (refusal_of z n family policy) (request (zone_of z)) (settled z name w)
promise_visited z n family policy request k v place name w p q t d =
    let o = not_refused z n family policy (sym p ∙ q) in
    promise_changed z n family policy request place name w (sym p ∙ q) (d.comes z o.form o.name t)
