-- What a request's promise, the way on from its answer and the job's numbers make of a step. Assumes nothing.
use mathlib.Core.Path.{◌≡◌, refl, sym, ◌∙◌, ap, subst}
use mathlib.Core.Bool.{Bool, true, false, cond}
use mathlib.Core.List.{[], ◌∷◌}
use mathlib.Core.Logic.{◌⊎◌, inl, inr}
use Prim.Native.Nat.{ℕ, ◌<◌}
use native.Mathlib.Omega.{arith}
use lib.Dec.{eqb}
use borrow.Author.Tests.{eq-eqb, ne_eqb}
use Rattle.octets.specs.Count.{Octets}
use Rattle.octets.proofs.BoolLaws.{and_left}
use Rattle.zone.specs.declared.Zone.{Zone}
use Rattle.request.specs.declared.Answered.{Answered}
use Rattle.update.specs.Rules.{Answer, success, Outcome}
use Rattle.dname.specs.Name.{name_of}
use Rattle.zone.specs.Meaning.{formed}
use Rattle.update.specs.Meaning.{listed, zone_of}
use Rattle.update.specs.Spelling.{spelling_of, respelled}
use Rattle.request.specs.Promise.{refusal_of, number_of, Promised}
use Rattle.update.proofs.NumberLaws.{listed_zero}
use Rattle.request.proofs.AnswerLaws.{number_success}
use Rattle.request.proofs.PromiseLaws.{refusal_listed, says_17, not_17}
use Rattle.request.proofs.SpellingLaws.{spells_same, spelled_by}
use Rattle.job.specs.declared.job.Job.{Job}
use Rattle.job.specs.declared.stage.Stage as code
use Rattle.job.specs.declared.stage.Stage.TheVariants.{BeforeA, BeforeB, Done, Conflict, NoRoom, GaveUp, BeforeFirst, BeforeSecond, NotOurs, Gone, Kept}
use Rattle.job.specs.Jobs.{Stage, possible, State, goes_on, step}
use Rattle.job.specs.Meaning.{stage_number, stage_count, stage_of, or_kept, allowed, can_have, is_add, arguments_of, at_stage, numbers_listed}
use Rattle.job.specs.Inner.{staged, Stands, led}
use Rattle.job.proofs.AnswerLaws.{answer_number}
use Rattle.job.proofs.StageLaws.{each_among}
use Rattle.job.proofs.JobLaws.{number_back, listed_stage}
use Rattle.step.specs.Promise.{step_refusal, step_of, StepPromise}
use Rattle.step.specs.Inner.{policy_read, untouched, request_at, rule_of, SentPromise}

-- ---- a job that stands at a stage

module _ (j : Job) (s : code.Stage) (h : Stands j s) where
  stage_is : stage_of j.stage j.count ≡ staged s j.count
  unfolding stage_of
  stage_is = ap or_kept h.at_is

  number_is : stage_number (staged s j.count) ≡ j.stage
  number_is = ap stage_number (sym stage_is) ∙ number_back j.stage j.count (listed_stage j h.listed_is)

  possible_is : possible (staged s j.count) ≡ true
  possible_is = unfold can_have in ap allowed (sym h.at_is) ∙ listed_stage j h.listed_is

  listed_is : listed j.family (cond (is_add j.stage) j.policy 0) ≡ true
  unfolding numbers_listed
  listed_is = and_left (listed j.family (cond (is_add j.stage) j.policy 0)) (can_have j.stage j.count) h.listed_is

  -- a stage keeps the count with which it was found
  stays : at_stage j (staged s j.count) ≡ j
  unfolding at_stage stage_count
  stays = λ i. record {
    stage = number_is i;
    count = same s i;
    family = j.family;
    policy = j.policy;
    name = j.name;
    dhcid = j.dhcid;
    address = j.address;
  }
    where
      same : (s : code.Stage) → stage_count (staged s j.count) j.count ≡ j.count
      same BeforeA = refl
      same BeforeB = refl
      same Done = refl
      same Conflict = refl
      same NoRoom = refl
      same GaveUp = refl
      same BeforeFirst = refl
      same BeforeSecond = refl
      same NotOurs = refl
      same Gone = refl
      same Kept = refl

count_a : (j : Job) → Stands j BeforeA → j.count < 6
count_a j h = each_among (λ n. n < 6) j.count (0 ∷ 2 ∷ 4 ∷ []) (omega arith, (omega arith, (omega arith, tt))) (unfold possible in possible_is j BeforeA h)

count_b : (j : Job) → Stands j BeforeB → j.count < 6
count_b j h = each_among (λ n. n < 6) j.count (1 ∷ 3 ∷ 5 ∷ []) (omega arith, (omega arith, (omega arith, tt))) (unfold possible in possible_is j BeforeB h)

pub count_add : (j : Job) (s : code.Stage) → Stands j s → (s ≡ BeforeA) ⊎ (s ≡ BeforeB) → j.count < 6
count_add j s h (inl e) = count_a j (subst (Stands j) e h)
count_add j s h (inr e) = count_b j (subst (Stands j) e h)

-- the policy that a request reads is listed
policy_listed : (j : Job) (s : code.Stage) → Stands j s → listed j.family (policy_read s j) ≡ true
unfolding stage_number is_add
policy_listed j s h = go s (number_is j s h)
  where
    zero : listed j.family 0 ≡ true
    zero = listed_zero j.family (cond (is_add j.stage) j.policy 0) (listed_is j s h)

    go : (s : code.Stage) → stage_number (staged s j.count) ≡ j.stage → listed j.family (policy_read s j) ≡ true
    go BeforeB e =
        let two : ◌≡◌ {A = ℕ} 2 j.stage = e in
        ap (λ (n : ℕ). listed j.family (cond (is_add n) j.policy 0)) two ∙ listed_is j s h
    go BeforeA e = zero
    go BeforeFirst e = zero
    go BeforeSecond e = zero
    go Done e = zero
    go Conflict e = zero
    go NoRoom e = zero
    go GaveUp e = zero
    go NotOurs e = zero
    go Gone e = zero
    go Kept e = zero

-- the step that the rules make
pub step_at : (z : Zone) (j : Job) (s : code.Stage) → Stands j s → step_of z j ≡ goes_on (request_at s j (zone_of z)) (rule_of s j.count)
unfolding step arguments_of
step_at z j s h = ap (step (arguments_of j) (zone_of z)) (stage_is j s h) ∙ go s
  where
    go : (s : code.Stage) → step (arguments_of j) (zone_of z) (staged s j.count) ≡ goes_on (request_at s j (zone_of z)) (rule_of s j.count)
    go BeforeA = refl
    go BeforeB = refl
    go BeforeFirst = refl
    go BeforeSecond = refl
    go Done = refl
    go Conflict = refl
    go NoRoom = refl
    go GaveUp = refl
    go NotOurs = refl
    go Gone = refl
    go Kept = refl

-- ---- a job that has ended

-- a stage that sends no request
pub record Idle (s : code.Stage) : Type 0 where
  pub not_a : s ≡ BeforeA → ⊥
  pub not_b : s ≡ BeforeB → ⊥
  pub not_first : s ≡ BeforeFirst → ⊥
  pub not_second : s ≡ BeforeSecond → ⊥

pub idle_cases : (P : code.Stage → Type 0) → P Done → P Conflict → P NoRoom → P GaveUp → P NotOurs → P Gone → P Kept → (s : code.Stage) → Idle s → P s
idle_cases P d c n g o m k BeforeA i = absurd (i.not_a refl)
idle_cases P d c n g o m k BeforeB i = absurd (i.not_b refl)
idle_cases P d c n g o m k BeforeFirst i = absurd (i.not_first refl)
idle_cases P d c n g o m k BeforeSecond i = absurd (i.not_second refl)
idle_cases P d c n g o m k Done i = d
idle_cases P d c n g o m k Conflict i = c
idle_cases P d c n g o m k NoRoom i = n
idle_cases P d c n g o m k GaveUp i = g
idle_cases P d c n g o m k NotOurs i = o
idle_cases P d c n g o m k Gone i = m
idle_cases P d c n g o m k Kept i = k

-- it stays as it is
pub idle_stays : (j : Job) (s : code.Stage) (x : ℕ) → Idle s → Stands j s → j ≡ led j (rule_of s j.count) x
idle_stays j s x i =
    idle_cases (λ s. Stands j s → j ≡ led j (rule_of s j.count) x)
    (kept Done) (kept Conflict) (kept NoRoom) (kept GaveUp) (kept NotOurs) (kept Gone) (kept Kept) s i
  where
    kept : (s : code.Stage) → Stands j s → j ≡ at_stage j (staged s j.count)
    kept s h = sym (stays j s h)

-- ---- a zone that is only checked

pub form_checked : (z : Zone) (n : Octets) (family : ℕ) → refusal_of z n family 0 ≡ 0 → formed z ≡ true
form_checked z n family q = not_17 z n family 0 (λ p. let t : ◌≡◌ {A = ℕ} 17 0 = sym p ∙ q in omega arith)

pub checked : (z : Zone) (n : Octets) (right refusal : ℕ) → refusal ≡ right → (right ≡ 0 → formed z ≡ true)
    → Promised z n right (untouched (zone_of z)) (record { refusal = refusal; answer = 0; zone = z })
checked z n right refusal e f = record {
  refusal_is = e;
  answer_is = answered (eqb right 0);
  kept = λ d. refl;
  unchanged = λ q. refl;
  done = λ q. refl;
  formed_again = f;
  spelled = λ q. spelled_by n z z (spells_same n z z refl) (zone_of z) refl;
}
  where
    answered : (b : Bool) → ◌≡◌ {A = ℕ} 0 (cond b (number_of success) 0)
    answered true = sym number_success
    answered false = refl

-- what a job that has ended gets of it
pub sent_idle : (z : Zone) (j : Job) (s : code.Stage) (refusal : ℕ) → Idle s → refusal ≡ refusal_of z (name_of j.name) j.family 0
    → SentPromise z j s (record { refusal = refusal; answer = 0; zone = z })
sent_idle z j s refusal i e =
    let k = checked z (name_of j.name) (refusal_of z (name_of j.name) j.family 0) refusal e (form_checked z (name_of j.name) j.family) in
    idle_cases (λ s. SentPromise z j s (record { refusal = refusal; answer = 0; zone = z })) k k k k k k k s i

-- ---- the step

module _ (z : Zone) (j : Job) where
  -- one refusal for the request and for the step
  refusal_same : (p : ℕ) → numbers_listed j ≡ true → listed j.family p ≡ true → refusal_of z (name_of j.name) j.family p ≡ step_refusal z j
  unfolding step_refusal
  refusal_same p h l = refusal_listed z (name_of j.name) j.family p l ∙ sym (rw h refl)

  pub step_kept : (s : code.Stage) (sent : Answered) (next : Job) → Stands j s → SentPromise z j s sent
      → next ≡ cond (eqb sent.refusal 0) (led j (rule_of s j.count) sent.answer) j → StepPromise z j (record { refusal = sent.refusal; zone = sent.zone; job = next })
  step_kept s sent next h m c = record {
    refusal_is = k.refusal_is;
    zone_kept = k.kept;
    unchanged = λ e. k.unchanged (ap (λ (w : State). w.zone) (sym t) ∙ e);
    job_kept = λ n. c ∙ ap (λ (b : Bool). cond b way j) (ne_eqb sent.refusal 0 (λ e. n (sym k.refusal_is ∙ e)));
    zone_is = λ e. k.done e ∙ ap (λ (w : State). w.zone) (sym t);
    formed_again = k.formed_again;
    spelled = λ e. k.spelled e ∙ ap (λ (w : State). respelled (name_of j.name) w.zone (spelling_of z)) (sym t);
    job_is = λ e. c ∙ ap (λ (b : Bool). cond b way j) (eq-eqb sent.refusal 0 (k.refusal_is ∙ e))
        ∙ ap (led j rule) (k.answer_is ∙ ap (λ (b : Bool). cond b (number_of o.answer) 0) (eq-eqb (step_refusal z j) 0 e))
        ∙ ap (λ (a : Answer). at_stage j (rule a)) (answer_number o.answer)
        ∙ ap (λ (w : State). at_stage j w.stage) (sym t);
  }
    where
      o : Outcome
      o = request_at s j (zone_of z)

      rule : Answer → Stage
      rule = rule_of s j.count

      way : Job
      way = led j rule sent.answer

      t : step_of z j ≡ goes_on o rule
      t = step_at z j s h

      k : Promised z (name_of j.name) (step_refusal z j) o sent
      k = subst (λ (n : ℕ). Promised z (name_of j.name) n o sent) (refusal_same (policy_read s j) h.listed_is (policy_listed j s h)) m

  -- ---- numbers that are not listed

  pub form_fails : (p : ℕ) → refusal_of z (name_of j.name) j.family p ≡ 17 → formed z ≡ false
  form_fails p e = says_17 z (name_of j.name) j.family p e

  pub form_holds : (p : ℕ) → (refusal_of z (name_of j.name) j.family p ≡ 17 → ⊥) → formed z ≡ true
  form_holds p n = not_17 z (name_of j.name) j.family p n

  pub refused_form : formed z ≡ false → StepPromise z j (record { refusal = 17; zone = z; job = j })
  refused_form f =
      let e : 17 ≡ step_refusal z j = unfold step_refusal in rw f refl in
      record {
        refusal_is = e;
        zone_kept = λ n. refl;
        unchanged = λ q. refl;
        job_kept = λ n. refl;
        zone_is = λ q. absurd (omega arith);
        formed_again = λ q. absurd (omega arith);
        spelled = λ q. absurd (omega arith);
        job_is = λ q. absurd (omega arith);
      }

  pub refused_numbers : formed z ≡ true → numbers_listed j ≡ false → StepPromise z j (record { refusal = 18; zone = z; job = j })
  refused_numbers f h =
      let e : 18 ≡ step_refusal z j = unfold step_refusal in rw (f, h) refl in
      record {
        refusal_is = e;
        zone_kept = λ n. refl;
        unchanged = λ q. refl;
        job_kept = λ n. refl;
        zone_is = λ q. absurd (omega arith);
        formed_again = λ q. absurd (omega arith);
        spelled = λ q. absurd (omega arith);
        job_is = λ q. absurd (omega arith);
      }
