-- The calls on a zone that a program keeps as octets, in the layout of the C struct. Each step either changes the octets where they lie or is
-- handed the zone that they hold by value, in any mixture.
use Rattle.std.specs.Prelude.{◌≡◌, true, List, ℕ, length}
use Rattle.zone.specs.declared.Zone.{Zone}
use Rattle.zone.specs.Meaning.{formed}
use Rattle.update.specs.Meaning.{zone_of}
use Rattle.lentzone.specs.Decode.{zone_in}
use Rattle.lentzone.specs.Encode.{Holds}
use Rattle.job.specs.declared.job.Job.{Job}
use Rattle.job.specs.Meaning.{job_of}
use Rattle.step.specs.declared.Stepped.{Stepped}
use Rattle.step.specs.declared.lent.StepAnswer.{StepAnswer}
use Rattle.step.specs.Promise.{StepPromise}
use Rattle.step.specs.Lent.{StepPromiseIn}
use Rattle.serial.specs.Steps.{Calls}
use Rattle.serial.specs.Running.{NewCall}

-- What there is after a step: the refusal that it returned, the octets as they then are, and the job that it returned.
pub record Left : Type 0 where
  pub refusal : ℕ
  pub octets : List ℕ
  pub job : Job

-- A step of a job with these octets. The contract of the call is all that is known.
pub data StepOn (z : List ℕ) (k : Job) : Left → Type 0 where
  -- the octets were lent to the step, which left these in their place
  lent : (after : List ℕ) (r : StepAnswer) → StepPromiseIn z k after r → StepOn z k (record { refusal = r.refusal; octets = after; job = r.job })
  -- the step was handed the zone that the octets hold, and the zone that it returned was stored: the octets after it hold that one
  by_value : (x : Zone) (r : Stepped) (after : List ℕ) → Holds z x → StepPromise x k r → Holds after r.zone
      → StepOn z k (record { refusal = r.refusal; octets = after; job = r.job })

abbrev pub on_octets : Calls
on_octets = record {
  Z = List ℕ;
  J = Job;
  R = Left;
  zone_of = λ (z : List ℕ). zone_of (zone_in z);
  job_of = job_of;
  refusal = λ (r : Left). r.refusal;
  zone = λ (r : Left). r.octets;
  job = λ (r : Left). r.job;
  Formed = λ (z : List ℕ). (length z ≡ 23936) × (formed (zone_in z) ≡ true);
  New = NewCall;
  Step = StepOn;
}
