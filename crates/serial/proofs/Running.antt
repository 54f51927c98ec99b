-- The calls that run keep the promises: demand 3, with no parameter left. Assumes nothing.
use mathlib.Core.Path.{◌≡◌, sym, ◌∙◌, ap, subst}
use mathlib.Core.Bool.{true}
use Rattle.zone.specs.declared.Zone.{Zone}
use Rattle.dname.specs.Name.{name_of, is_full}
use Rattle.zone.specs.Meaning.{formed}
use Rattle.update.specs.Meaning.{zone_of}
use Rattle.request.proofs.PlaceLaws.{form_of}
use Rattle.job.specs.declared.job.Job.{Job}
use Rattle.job.specs.Jobs.{Arguments, possible, fresh}
use Rattle.job.specs.Meaning.{arguments_of, stage_of, job_of, at_stage, numbers_listed, fresh_add, fresh_remove}
use Rattle.job.specs.Promise.{new_refusal}
use Rattle.job.proofs.JobLaws.{possible_before, new_none, new_is, add_is, remove_is, add_listed, add_full, remove_listed, remove_full}
use Rattle.step.specs.declared.Stepped.{Stepped}
use Rattle.step.specs.Promise.{step_refusal, step_of, StepPromise}
use Rattle.step.proofs.AfterLaws.{listed_after, listed_of, full_of_lem, unrefused, zone_after_lem, job_after_lem}
use Rattle.serial.specs.Steps.{Promises}
use Rattle.serial.specs.Demand.{RefusedKeeps, Delivered}
use Rattle.serial.specs.Running.{NewCall, new_add, new_remove, running}
use Rattle.serial.proofs.StageLaws.{possible_step}
use Rattle.serial.proofs.InTime.{Taken, deliver}

new_job_lem : (j : Arguments) (k : Job) → NewCall j k → job_of k ≡ record { arguments = j; stage = fresh j }
unfolding fresh
new_job_lem j k (new_add n d family a policy r p e) =
    ap job_of (new_is (new_refusal (name_of n) family policy) (fresh_add n d family a policy) r p e) ∙ add_is n d family a policy
new_job_lem j k (new_remove n d family a r p e) = ap job_of (new_is (new_refusal (name_of n) family 0) (fresh_remove n d family a) r p e) ∙ remove_is n d family a

pub kept_promises : Promises running
kept_promises = record {
  formed = λ z f. form_of z f;
  new = new_job_lem;
  zone_after = λ z k r p e. zone_after_lem z k r p e;
  job_after = λ z k r p e. job_after_lem z k r p e;
}

-- ---- a job of the list is never refused

abbrev pub Ok : Job → Type 0
Ok k = (numbers_listed k ≡ true) × (is_full (name_of k.name) ≡ true)

new_ok : (j : Arguments) (k : Job) → NewCall j k → Ok k
new_ok j k (new_add n d family a policy r p e) =
    let z = new_none (new_refusal (name_of n) family policy) (fresh_add n d family a policy) r p e in
    subst Ok (sym (new_is (new_refusal (name_of n) family policy) (fresh_add n d family a policy) r p e)) (add_listed n d family a policy z, add_full n d family a policy z)
new_ok j k (new_remove n d family a r p e) =
    let z = new_none (new_refusal (name_of n) family 0) (fresh_remove n d family a) r p e in
    subst Ok (sym (new_is (new_refusal (name_of n) family 0) (fresh_remove n d family a) r p e)) (remove_listed n d family a z, remove_full n d family a z)

module _ (z : Zone) (k : Job) (r : Stepped) (p : StepPromise z k r) where
  step_unrefused : formed z ≡ true → Ok k → r.refusal ≡ 0
  step_unrefused f o = p.refusal_is ∙ unrefused z k f o.0 o.1

  module _ (e : r.refusal ≡ 0) where
    none : step_refusal z k ≡ 0
    none = sym p.refusal_is ∙ e

    step_formed : formed r.zone ≡ true
    step_formed = p.formed_again none

    step_ok : Ok r.job
    step_ok = subst Ok (sym (p.job_is none)) (listed_after z k (listed_of z k none) can, (unfold at_stage in full_of_lem z k none))
      where
        can : possible (step_of z k).stage ≡ true
        can = possible_step (arguments_of k) (zone_of z) (stage_of k.stage k.count) (unfold job_of in possible_before k (listed_of z k none))

pub taken : Taken running running.Formed Ok
taken = record {
  formed_ok = λ z f. f;
  new_ok = new_ok;
  unrefused = λ z k r f o p. step_unrefused z k r p f o;
  zone_ok = λ z k r p e. step_formed z k r p e;
  job_ok = λ z k r p e. step_ok z k r p e;
}

pub delivered : Delivered running
delivered = deliver running kept_promises running.Formed Ok taken

pub refused_keeps : RefusedKeeps running
refused_keeps z k r p n =
    let m : ¬ (step_refusal z k ≡ 0) = λ e. n (p.refusal_is ∙ e) in
    (p.zone_kept m, p.job_kept m)
