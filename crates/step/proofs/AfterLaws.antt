-- What the structs mean after a step: all that a layer above needs of it. Assumes nothing.
use mathlib.Core.Path.{◌≡◌, refl, sym, ◌∙◌, ap}
use mathlib.Core.Bool.{Bool, true, false, cond}
use Prim.Native.Nat.{ℕ}
use native.Mathlib.Omega.{arith}
use Rattle.octets.proofs.BoolLaws.{and_left}
use Rattle.zone.specs.declared.Zone.{Zone}
use Rattle.dname.specs.Name.{name_of, is_full}
use Rattle.zone.specs.Meaning.{formed}
use Rattle.update.specs.Meaning.{listed, policy_of, update_of, zone_of}
use Rattle.job.specs.declared.job.Job.{Job}
use Rattle.job.specs.Jobs.{add, remove, possible, step}
use Rattle.job.specs.Meaning.{stage_number, stage_of, can_have, is_add, arguments_of, job_of, at_stage, numbers_listed}
use Rattle.job.proofs.JobLaws.{stage_back, can_back, kind_step, number_back, listed_stage}
use Rattle.step.specs.declared.Stepped.{Stepped}
use Rattle.step.specs.Promise.{step_refusal, step_of, StepPromise}

-- ---- the numbers of a job stay listed, and its arguments the same

module _ (z : Zone) (j : Job) (h : numbers_listed j ≡ true) where
  kind_same : is_add (stage_number (step_of z j).stage) ≡ is_add j.stage
  kind_same = kind_step (arguments_of j) (zone_of z) (stage_of j.stage j.count) ∙ ap is_add (number_back j.stage j.count (listed_stage j h))

  arguments_same : arguments_of (at_stage j (step_of z j).stage) ≡ arguments_of j
  unfolding arguments_of at_stage
  arguments_same = ap (λ (b : Bool). record { kind = cond b add remove; update = update_of j.name j.dhcid j.family j.address; policy = policy_of j.policy }) kind_same

  pub listed_after : possible (step_of z j).stage ≡ true → numbers_listed (at_stage j (step_of z j).stage) ≡ true
  unfolding numbers_listed at_stage
  listed_after p =
      let l : listed j.family (cond (is_add j.stage) j.policy 0) ≡ true =
      and_left (listed j.family (cond (is_add j.stage) j.policy 0)) (can_have j.stage j.count) h in
      rw (kind_same, l, can_back (step_of z j).stage j.count) p

-- ---- a step that is not refused

pub listed_of : (z : Zone) (j : Job) → step_refusal z j ≡ 0 → numbers_listed j ≡ true
unfolding step_refusal
listed_of z j e = go (formed z) (numbers_listed j) (is_full (name_of j.name)) e
  where
    go : (a b c : Bool) → ◌≡◌ {A = ℕ} (cond a (cond b (cond c 0 11) 18) 17) 0 → b ≡ true
    go a true c q = refl
    go true false c q = absurd (omega arith)
    go false false c q = absurd (omega arith)

pub full_of_lem : (z : Zone) (j : Job) → step_refusal z j ≡ 0 → is_full (name_of j.name) ≡ true
unfolding step_refusal
full_of_lem z j e = go (formed z) (numbers_listed j) (is_full (name_of j.name)) e
  where
    go : (a b c : Bool) → ◌≡◌ {A = ℕ} (cond a (cond b (cond c 0 11) 18) 17) 0 → c ≡ true
    go a b true q = refl
    go true true false q = absurd (omega arith)
    go true false false q = absurd (omega arith)
    go false b false q = absurd (omega arith)

pub unrefused : (z : Zone) (j : Job) → formed z ≡ true → numbers_listed j ≡ true → is_full (name_of j.name) ≡ true → step_refusal z j ≡ 0
unfolding step_refusal
unrefused z j f n l = rw (f, n, l) refl

module _ (z : Zone) (j : Job) (r : Stepped) (p : StepPromise z j r) (e : r.refusal ≡ 0) where
  none : step_refusal z j ≡ 0
  none = sym p.refusal_is ∙ e

  pub zone_after_lem : zone_of r.zone ≡ (step (job_of j).arguments (zone_of z) (job_of j).stage).zone
  unfolding job_of
  zone_after_lem = p.zone_is none

  pub job_after_lem : job_of r.job ≡ record { arguments = (job_of j).arguments; stage = (step (job_of j).arguments (zone_of z) (job_of j).stage).stage }
  unfolding job_of
  job_after_lem =
      ap (λ (k : Job). job_of k) (p.job_is none)
      ∙ (λ i. record { arguments = arguments_same z j (listed_of z j none) i; stage = back i })
    where
      back : stage_of (at_stage j (step_of z j).stage).stage (at_stage j (step_of z j).stage).count ≡ (step_of z j).stage
      back = unfold at_stage in stage_back (step_of z j).stage j.count
