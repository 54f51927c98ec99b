-- The calls that run: demand 3's calls with the structs and the promises of crates job and step.
use Rattle.std.specs.Prelude.{◌≡◌, true, ℕ}
use Rattle.dname.specs.declared.name.Name.{Name}
use Rattle.zone.specs.declared.entry.Dhcid.{Dhcid}
use Rattle.zone.specs.declared.entry.Address.{Address}
use Rattle.zone.specs.declared.Zone.{Zone}
use Rattle.update.specs.Rules.{keep_others}
use Rattle.zone.specs.Meaning.{formed}
use Rattle.update.specs.Meaning.{zone_of, policy_of, update_of}
use Rattle.job.specs.declared.job.Job.{Job}
use Rattle.job.specs.declared.fresh.NewJob.{NewJob}
use Rattle.job.specs.Jobs.{Arguments, add, remove}
use Rattle.job.specs.Meaning.{job_of}
use Rattle.job.specs.Promise.{AddPromise, RemovePromise}
use Rattle.step.specs.declared.Stepped.{Stepped}
use Rattle.step.specs.Promise.{StepPromise}
use Rattle.serial.specs.Steps.{Calls}

-- A new job call that was not refused: what it was given, and the job that it gave. The contracts of the two calls are all that is known.
pub data NewCall : Arguments → Job → Type 0 where
  new_add : (n : Name) (d : Dhcid) (family : ℕ) (a : Address) (policy : ℕ) (r : NewJob) → AddPromise n d family a policy r → r.refusal ≡ 0
      → NewCall (record { kind = add; update = update_of n d family a; policy = policy_of policy }) r.job
  new_remove : (n : Name) (d : Dhcid) (family : ℕ) (a : Address) (r : NewJob) → RemovePromise n d family a r → r.refusal ≡ 0
      → NewCall (record { kind = remove; update = update_of n d family a; policy = keep_others }) r.job

abbrev pub running : Calls
running = record {
  Z = Zone;
  J = Job;
  R = Stepped;
  zone_of = zone_of;
  job_of = job_of;
  refusal = λ (r : Stepped). r.refusal;
  zone = λ (r : Stepped). r.zone;
  job = λ (r : Stepped). r.job;
  Formed = λ (z : Zone). formed z ≡ true;
  New = NewCall;
  Step = StepPromise;
}
