-- What the step on a lent zone promises.
use Rattle.std.specs.Prelude.{◌≡◌, List, ℕ, length}
use Rattle.update.specs.Meaning.{zone_of}
use Rattle.lentzone.specs.Decode.{zone_in, OnePlace}
use Rattle.job.specs.declared.job.Job.{Job}
use Rattle.step.specs.declared.Stepped.{Stepped}
use Rattle.step.specs.declared.lent.StepAnswer.{StepAnswer}
use Rattle.step.specs.Promise.{step_of, StepPromise}

-- What the step by value would hand back.
abbrev pub stepped : List ℕ → StepAnswer → Stepped
stepped after r = record { refusal = r.refusal; zone = zone_in after; job = r.job }

-- A step on the octets z, of which it makes the octets after. There are as many octets as before. They are the very same ones where the
-- step is refused, and where the rules leave the zone that they hold as it is; else no octet outside one place is another. The refusal,
-- the job and the zone that they hold are what the step by value promises. Other than 23,936 octets hold no zone, which is refusal 17
-- with the very same job.
pub record StepPromiseIn (z : List ℕ) (j : Job) (after : List ℕ) (r : StepAnswer) : Type 0 where
  pub size : length after ≡ length z
  pub same : ¬ (r.refusal ≡ 0) → after ≡ z
  pub unchanged : (step_of (zone_in z) j).zone ≡ zone_of (zone_in z) → after ≡ z
  pub elsewhere : OnePlace z after
  pub held : length z ≡ 23936 → StepPromise (zone_in z) j (stepped after r)
  pub refused : ¬ (length z ≡ 23936) → (r.refusal ≡ 17) × (r.job ≡ j)
