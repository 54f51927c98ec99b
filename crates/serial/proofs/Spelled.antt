-- Each list of steps spells the names of its last zone by the rule of requests. Assumes nothing.
use mathlib.Core.Path.{◌≡◌, refl, sym, ◌∙◌, ap}
use mathlib.Core.List.{List}
use Prim.Native.Nat.{ℕ}
use Rattle.dname.specs.Name.{name_of}
use Rattle.zone.specs.declared.Zone.{Zone}
use Rattle.update.specs.Rules as rules
use Rattle.update.specs.Meaning.{zone_of, update_of}
use Rattle.update.specs.Spelling.{Spelling, spelling_of, respelled}
use Rattle.lentzone.specs.Decode.{zone_in}
use Rattle.job.specs.declared.job.Job.{Job}
use Rattle.job.specs.Meaning.{arguments_of, job_of}
use Rattle.step.specs.declared.Stepped.{Stepped}
use Rattle.step.specs.Promise.{step_refusal, StepPromise}
use Rattle.serial.specs.Steps.{Calls, Steps, start, stepped, refused}
use Rattle.serial.specs.Running.{running}
use Rattle.serial.specs.OnOctets.{Left, StepOn, on_octets}
use Rattle.serial.proofs.OnOctets.{returned, unrefused_in}
use Rattle.serial.specs.Spelling.{spelled_by_steps, SpelledBySteps, Spelled}

-- ---- of any calls whose steps spell by the rule

module _ (C : Calls) (spelling : C.Z → Spelling)
    (each : (z : C.Z) (k : C.J) (r : C.R) → C.Step z k r → C.refusal r ≡ 0
    → spelling (C.zone r) ≡ respelled (C.job_of k).arguments.update.name (C.zone_of (C.zone r)) (spelling z)) where
  by_steps : (z₀ : C.Z) (ks₀ : List C.J) (z : C.Z) (ks : List C.J) (l : Steps C z₀ ks₀ z ks) → spelling z ≡ spelled_by_steps C l (spelling z₀)
  unfolding spelled_by_steps
  by_steps z₀ ks₀ z ks start = refl
  by_steps z₀ ks₀ z ks (stepped {z = y} {ks = js} l i k r g p q) =
      each y k r p q ∙ ap (respelled (C.job_of k).arguments.update.name (C.zone_of (C.zone r))) (by_steps z₀ ks₀ y js l)
  by_steps z₀ ks₀ z ks (refused l y k r p q) = by_steps z₀ ks₀ z ks l

  spelled_steps : SpelledBySteps C spelling
  spelled_steps z₀ z ks₀ ks l = by_steps z₀ ks₀ z ks l

-- ---- of those that run

name_of_lem : (k : Job) → (job_of k).arguments.update.name ≡ name_of k.name
unfolding job_of arguments_of update_of
name_of_lem k = refl

step_spelled : (z : Zone) (k : Job) (r : Stepped) → StepPromise z k r → r.refusal ≡ 0
    → spelling_of r.zone ≡ respelled (job_of k).arguments.update.name (zone_of r.zone) (spelling_of z)
step_spelled z k r p e =
    let n : step_refusal z k ≡ 0 = sym p.refusal_is ∙ e in
    p.spelled n ∙ ap (λ (y : rules.Zone). respelled (name_of k.name) y (spelling_of z)) (sym (p.zone_is n))
    ∙ ap (λ (o : List ℕ). respelled o (zone_of r.zone) (spelling_of z)) (sym (name_of_lem k))

on_octets_spelled : (z : List ℕ) (k : Job) (r : Left) → StepOn z k r → r.refusal ≡ 0
    → spelling_of (zone_in r.octets) ≡ respelled (job_of k).arguments.update.name (zone_of (zone_in r.octets)) (spelling_of (zone_in z))
on_octets_spelled z k r p e = step_spelled (zone_in z) k (returned r) (unrefused_in z k r p e) e

-- Theorem: how the names are spelled at the end of every list of steps.
pub spelled : Spelled
spelled = record { by_value = spelled_steps running spelling_of step_spelled; on_lent = spelled_steps on_octets (λ (z : List ℕ). spelling_of (zone_in z)) on_octets_spelled }
