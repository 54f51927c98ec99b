-- The laws of a step by the number of the job's stage. Assumes nothing.
use mathlib.Core.Path.{◌≡◌, refl, sym, ◌∙◌, ap}
use mathlib.Core.Bool.{true, cond}
use mathlib.Core.List.{[], ◌∷◌}
use mathlib.Core.Option.{some}
use Prim.Native.Nat.{ℕ, ◌+◌, ◌<◌}
use native.Mathlib.Numerals.{add-one}
use native.Mathlib.Omega.{arith}
use Rattle.octets.proofs.BoolLaws.{and_left, and_right}
use Rattle.zone.specs.declared.Zone.{Zone}
use Rattle.update.specs.Rules.{request_a, request_b, remove_address, remove_name}
use Rattle.dname.specs.Name.{name_of}
use Rattle.zone.specs.Meaning.{formed}
use Rattle.update.specs.Meaning.{listed, policy_of, update_of, zone_of}
use Rattle.request.specs.Promise.{refusal_of}
use Rattle.update.proofs.NumberLaws.{listed_zero}
use Rattle.request.proofs.PromiseLaws.{refusal_listed}
use Rattle.request.proofs.SpellingLaws.{spells_same, spelled_by}
use Rattle.job.specs.declared.job.Job.{Job}
use Rattle.job.specs.Jobs.{Stage, before_a, before_b, before_first, before_second, ended, End, possible, State, goes_on, after, after_first, after_second, step}
use Rattle.job.specs.Meaning.{stage_number, stages, numbered, stage_at, stage_count, stage_of, can_have, is_add, arguments_of, at_stage, numbers_listed}
use Rattle.job.proofs.StageLaws.{each_among, each_numbered, Listed, can_stage}
use Rattle.job.proofs.JobLaws.{stage_of_lem}
use Rattle.step.specs.Promise.{step_refusal, step_of, StepPromise}
use Rattle.step.proofs.StepLaws.{form_holds}

-- ---- the numbers of a job

module _ (j : Job) (h : numbers_listed j ≡ true) where
  pub numbers_zero : listed j.family 0 ≡ true
  unfolding numbers_listed
  numbers_zero =
      listed_zero j.family (cond (is_add j.stage) j.policy 0)
      (and_left (listed j.family (cond (is_add j.stage) j.policy 0)) (can_have j.stage j.count) h)

  numbers_can : can_have j.stage j.count ≡ true
  unfolding numbers_listed
  numbers_can = and_right (listed j.family (cond (is_add j.stage) j.policy 0)) (can_have j.stage j.count) h

  can_at : (s : ℕ) → j.stage ≡ s → can_have s j.count ≡ true
  can_at s e = ap (λ (t : ℕ). can_have t j.count) (sym e) ∙ numbers_can

  pub count_a : j.stage ≡ 1 → j.count < 6
  unfolding can_have stage_at numbered stage_number possible
  count_a e = each_among (λ n. n < 6) j.count (0 ∷ 2 ∷ 4 ∷ []) (omega arith, (omega arith, (omega arith, tt))) (can_at 1 e)

  pub count_b : j.stage ≡ 2 → j.count < 6
  unfolding can_have stage_at numbered stage_number possible
  count_b e = each_among (λ n. n < 6) j.count (1 ∷ 3 ∷ 5 ∷ []) (omega arith, (omega arith, (omega arith, tt))) (can_at 2 e)

-- ---- the step that the rules make at each stage

module _ (z : Zone) (j : Job) where
  at_stage_lem : (s : ℕ) → j.stage ≡ s → step_of z j ≡ step (arguments_of j) (zone_of z) (stage_of s j.count)
  at_stage_lem s e = ap (λ (t : ℕ). step (arguments_of j) (zone_of z) (stage_of t j.count)) e

  pub step_at_a : j.stage ≡ 1 → step_of z j ≡ goes_on (request_a (update_of j.name j.dhcid j.family j.address) (zone_of z)) (after (j.count + 1))
  step_at_a e = at_stage_lem 1 e ∙ (unfold arguments_of stage_of stage_at numbered stage_number step in rw (add-one j.count) refl)

  pub step_at_b : j.stage ≡ 2
      → step_of z j ≡ goes_on (request_b (policy_of j.policy) (update_of j.name j.dhcid j.family j.address) (zone_of z)) (after (j.count + 1))
  step_at_b e = at_stage_lem 2 e ∙ (unfold arguments_of stage_of stage_at numbered stage_number step in rw (add-one j.count) refl)

  pub step_at_first : j.stage ≡ 11 → step_of z j ≡ goes_on (remove_address (update_of j.name j.dhcid j.family j.address) (zone_of z)) after_first
  step_at_first e = at_stage_lem 11 e ∙ (unfold arguments_of stage_of stage_at numbered stage_number step in refl)

  pub step_at_second : j.stage ≡ 12 → step_of z j ≡ goes_on (remove_name (update_of j.name j.dhcid j.family j.address) (zone_of z)) after_second
  step_at_second e = at_stage_lem 12 e ∙ (unfold arguments_of stage_of stage_at numbered stage_number step in refl)

  -- one refusal for a zone that is only checked and for the step
  refusal_same : (p : ℕ) → numbers_listed j ≡ true → listed j.family p ≡ true → refusal_of z (name_of j.name) j.family p ≡ step_refusal z j
  unfolding step_refusal
  refusal_same p h l = refusal_listed z (name_of j.name) j.family p l ∙ sym (rw h refl)

-- ---- a job that has ended

-- the number of no stage that sends a request
pub record Idle (stage : ℕ) : Type 0 where
  pub not_a : stage ≡ 1 → ⊥
  pub not_b : stage ≡ 2 → ⊥
  pub not_first : stage ≡ 11 → ⊥
  pub not_second : stage ≡ 12 → ⊥

record Over (s n : ℕ) : Type 0 where
  end : End
  is : stage_of s n ≡ ended end
  number : stage_number (ended end) ≡ s
  count : stage_count (ended end) n ≡ n

-- a stage keeps the count with which it was found
counted_same : (number count : ℕ) (s : Stage) → stage_at number count ≡ some s → stage_count s count ≡ count
unfolding stage_at stage_count
counted_same number count s e =
    each_numbered (λ t. stage_count t count ≡ count) number (stages count) s
    (refl, (refl, (refl, (refl, (refl, (refl, (refl, (refl, (refl, (refl, (refl, tt))))))))))) e

over : (s n : ℕ) → can_have s n ≡ true → Idle s → Over s n
over s n c i = go l.stage refl l.number_is
  where
    l : Listed s n
    l = can_stage s n c

    go : (t : Stage) → l.stage ≡ t → stage_number l.stage ≡ s → Over s n
    go (before_a m) e k = absurd (i.not_a (sym k ∙ ap stage_number e ∙ (unfold stage_number in refl)))
    go (before_b m) e k = absurd (i.not_b (sym k ∙ ap stage_number e ∙ (unfold stage_number in refl)))
    go before_first e k = absurd (i.not_first (sym k ∙ ap stage_number e ∙ (unfold stage_number in refl)))
    go before_second e k = absurd (i.not_second (sym k ∙ ap stage_number e ∙ (unfold stage_number in refl)))
    go (ended d) e k = record {
      end = d;
      is = stage_of_lem s n l ∙ e;
      number = ap stage_number (sym e) ∙ k;
      count = ap (λ (t : Stage). stage_count t n) (sym e) ∙ counted_same s n l.stage l.found;
    }

pub step_idle : (z : Zone) (j : Job) (refusal : ℕ) → numbers_listed j ≡ true → Idle j.stage → refusal ≡ refusal_of z (name_of j.name) j.family 0
    → StepPromise z j (record { refusal = refusal; zone = z; job = j })
step_idle z j refusal h i e = record {
  refusal_is = e ∙ same;
  zone_kept = λ n. refl;
  unchanged = λ q. refl;
  job_kept = λ n. refl;
  zone_is = λ q. sym (ap (λ (w : State). w.zone) stays);
  formed_again = λ q. formed_is q;
  spelled = λ q. spelled_by (name_of j.name) z z (spells_same (name_of j.name) z z refl) (step_of z j).zone (sym (ap (λ (w : State). w.zone) stays));
  job_is = λ q. same_job ∙ ap (λ (w : State). at_stage j w.stage) (sym stays);
}
  where
    same : refusal_of z (name_of j.name) j.family 0 ≡ step_refusal z j
    same = refusal_same z j 0 h (numbers_zero j h)

    o : Over j.stage j.count
    o = over j.stage j.count (numbers_can j h) i

    stays : step_of z j ≡ record { zone = zone_of z; stage = ended o.end }
    stays = ap (step (arguments_of j) (zone_of z)) o.is ∙ (unfold step in refl)

    formed_is : step_refusal z j ≡ 0 → formed z ≡ true
    formed_is q = form_holds z j 0 (λ p. let t : ◌≡◌ {A = ℕ} 17 0 = sym p ∙ same ∙ q in omega arith)

    same_job : j ≡ at_stage j (ended o.end)
    same_job = unfold at_stage in λ k. record {
      stage = sym o.number k;
      count = sym o.count k;
      family = j.family;
      policy = j.policy;
      name = j.name;
      dhcid = j.dhcid;
      address = j.address;
    }
