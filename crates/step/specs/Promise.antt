-- What the step promises. Document 01, "Refusal numbers" and "Zone, requests and jobs".
use Rattle.std.specs.Prelude.{◌≡◌, true, cond, ℕ}
use Rattle.zone.specs.declared.Zone.{Zone}
use Rattle.dname.specs.Name.{name_of, is_full}
use Rattle.zone.specs.Meaning.{formed}
use Rattle.update.specs.Meaning.{zone_of}
use Rattle.update.specs.Spelling.{spelling_of, respelled}
use Rattle.job.specs.declared.job.Job.{Job}
use Rattle.job.specs.Jobs.{State, step}
use Rattle.job.specs.Meaning.{arguments_of, stage_of, at_stage, numbers_listed}
use Rattle.step.specs.declared.Stepped.{Stepped}

-- The zone's form, then the job's numbers, then its name.
unfoldable pub step_refusal : Zone → Job → ℕ
step_refusal z j = cond (formed z) (cond (numbers_listed j) (cond (is_full (name_of j.name)) 0 11) 18) 17

-- What the rules make of the job and the zone.
abbrev pub step_of : Zone → Job → State
step_of z j = step (arguments_of j) (zone_of z) (stage_of j.stage j.count)

-- A refused step hands back the very same zone and job. Any other hands back the rules' zone, in good form, at whichever places its names
-- stand, each spelled as it was and a new one as the job has it, and the same job at the rules' stage. Where the rules leave the zone as it
-- is, the very same zone comes back, every octet of it.
pub record StepPromise (z : Zone) (j : Job) (r : Stepped) : Type 0 where
  pub refusal_is : r.refusal ≡ step_refusal z j
  pub zone_kept : ¬ (step_refusal z j ≡ 0) → r.zone ≡ z
  pub unchanged : (step_of z j).zone ≡ zone_of z → r.zone ≡ z
  pub job_kept : ¬ (step_refusal z j ≡ 0) → r.job ≡ j
  pub zone_is : step_refusal z j ≡ 0 → zone_of r.zone ≡ (step_of z j).zone
  pub formed_again : step_refusal z j ≡ 0 → formed r.zone ≡ true
  pub spelled : step_refusal z j ≡ 0 → spelling_of r.zone ≡ respelled (name_of j.name) (step_of z j).zone (spelling_of z)
  pub job_is : step_refusal z j ≡ 0 → r.job ≡ at_stage j (step_of z j).stage
