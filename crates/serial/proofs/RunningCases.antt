-- P12 of the calls that run, and of those on octets: whatever they return that meets their promises, the list of steps is one that demand 3
-- speaks of. Assumes nothing.
use mathlib.Core.Path.{◌≡◌, refl, sym, ◌∙◌, ap, subst}
use mathlib.Core.Bool.{true, true≢false}
use mathlib.Core.List.{List, [], ◌∷◌}
use mathlib.Core.Logic.{inl, inr}
use Prim.Native.Nat.{ℕ}
use lib.ListN.{length}
use Rattle.zone.specs.Meaning.{formed}
use Rattle.update.specs.Rules as rules
use Rattle.update.specs.Meaning.{zone_of}
use Rattle.lentzone.specs.Decode.{zone_in}
use Rattle.job.specs.declared.job.Job.{Job}
use Rattle.job.specs.Jobs as jobs
use Rattle.job.specs.Jobs.{gone, conflict, ended}
use Rattle.step.specs.declared.Stepped.{Stepped}
use Rattle.step.specs.declared.lent.StepAnswer.{StepAnswer}
use Rattle.step.specs.Promise.{StepPromise}
use Rattle.step.specs.Lent.{StepPromiseIn}
use Rattle.serial.specs.P12.{x_removes, y_adds, one_address, held_by_x, P12, Explained}
use Rattle.serial.specs.Steps.{Calls, Promises, no_job, one_more, start, stepped, own_steps, HasBegun, HoldsOf, AtFirst}
use Rattle.serial.specs.Order.{Explains}
use Rattle.serial.specs.Demand.{HeldHaveAddress, Story}
use Rattle.serial.specs.Running.{NewCall, running}
use Rattle.lentzone.specs.Encode.{Holds}
use Rattle.serial.specs.OnOctets.{lent, by_value, on_octets}
use Rattle.serial.proofs.RequestLaws.{placed}
use Rattle.serial.proofs.Demand.{fresh_unplaced, demand3}
use Rattle.serial.proofs.InTime.{Taken}
use Rattle.serial.proofs.Running.{Ok, kept_promises, taken}
use Rattle.serial.proofs.OnOctets.{octets_promises, octets_taken}
use Rattle.serial.proofs.Cases.{step_of, new_job, r₁, r₂, r₃, r₄, p12_ends, p12_held, p12_order, p12_no_other, p12_began}

-- ---- of any calls that keep the promises

module _ (C : Calls) (P : Promises C) where
  -- What stands after a step is what the rules make of what stood before it.
  pub record Follows (z : C.Z) (k : C.J) (y : rules.Zone) (m : jobs.Job) : Type 0 where
    pub zone_is : C.zone_of z ≡ y
    pub job_is : C.job_of k ≡ m

  follow : (z : C.Z) (k : C.J) (r : C.R) → C.Step z k r → C.refusal r ≡ 0 → (y : rules.Zone) (m : jobs.Job) → Follows z k y m → Follows (C.zone r) (C.job r) (step_of y m).zone (step_of y m).job
  follow z k r p e y m f = record {
    zone_is = P.zone_after z k r p e ∙ ap (λ (u : jobs.Job). (jobs.step u.arguments (C.zone_of z) u.stage).zone) f.job_is ∙ ap (λ (u : rules.Zone). (jobs.step m.arguments u m.stage).zone) f.zone_is;
    job_is = P.job_after z k r p e ∙ ap (λ (u : jobs.Job). (step_of (C.zone_of z) u).job) f.job_is ∙ ap (λ (u : rules.Zone). (step_of u m).job) f.zone_is;
  }

  module _ (OkZone : C.Z → Type 0) (OkJob : C.J → Type 0) (T : Taken C OkZone OkJob) (c : P12 C) where
    abbrev x₀ : rules.Zone
    x₀ = held_by_x one_address

    -- none of the steps is refused
    e₁ : C.refusal c.s₁ ≡ 0
    e₁ = T.unrefused c.z c.kx c.s₁ (T.formed_ok c.z c.formed) (T.new_ok x_removes c.kx c.new_x) c.x_first

    e₂ : C.refusal c.s₂ ≡ 0
    e₂ = T.unrefused (C.zone c.s₁) c.ky c.s₂ (T.zone_ok c.z c.kx c.s₁ c.x_first e₁) (T.new_ok y_adds c.ky c.new_y) c.y_first

    e₃ : C.refusal c.s₃ ≡ 0
    e₃ = T.unrefused (C.zone c.s₂) (C.job c.s₂) c.s₃ (T.zone_ok (C.zone c.s₁) c.ky c.s₂ c.y_first e₂) (T.job_ok (C.zone c.s₁) c.ky c.s₂ c.y_first e₂) c.y_second

    e₄ : C.refusal c.s₄ ≡ 0
    e₄ = T.unrefused (C.zone c.s₃) (C.job c.s₁) c.s₄ (T.zone_ok (C.zone c.s₂) (C.job c.s₂) c.s₃ c.y_second e₃) (T.job_ok c.z c.kx c.s₁ c.x_first e₁) c.x_second

    -- each is the step of the rules
    t₁ : Follows (C.zone c.s₁) (C.job c.s₁) (r₁ x₀ x_removes y_adds).zone (r₁ x₀ x_removes y_adds).job
    t₁ = follow c.z c.kx c.s₁ c.x_first e₁ x₀ (new_job x_removes) (record { zone_is = c.held; job_is = P.new x_removes c.kx c.new_x })

    t₂ : Follows (C.zone c.s₂) (C.job c.s₂) (r₂ x₀ x_removes y_adds).zone (r₂ x₀ x_removes y_adds).job
    t₂ = follow (C.zone c.s₁) c.ky c.s₂ c.y_first e₂ (r₁ x₀ x_removes y_adds).zone (new_job y_adds) (record { zone_is = t₁.zone_is; job_is = P.new y_adds c.ky c.new_y })

    t₃ : Follows (C.zone c.s₃) (C.job c.s₃) (r₃ x₀ x_removes y_adds).zone (r₃ x₀ x_removes y_adds).job
    t₃ = follow (C.zone c.s₂) (C.job c.s₂) c.s₃ c.y_second e₃ (r₂ x₀ x_removes y_adds).zone (r₂ x₀ x_removes y_adds).job t₂

    t₄ : Follows (C.zone c.s₄) (C.job c.s₄) (r₄ x₀ x_removes y_adds).zone (r₄ x₀ x_removes y_adds).job
    t₄ = follow (C.zone c.s₃) (C.job c.s₁) c.s₄ c.x_second e₄ (r₃ x₀ x_removes y_adds).zone (r₁ x₀ x_removes y_adds).job (record { zone_is = t₃.zone_is; job_is = t₁.job_is })

    x_ended : (C.job_of (C.job c.s₄)).stage ≡ ended gone
    x_ended = ap (λ (m : jobs.Job). m.stage) t₄.job_is ∙ p12_ends.0

    y_ended : (C.job_of (C.job c.s₃)).stage ≡ ended (conflict 2)
    y_ended = ap (λ (m : jobs.Job). m.stage) t₃.job_is ∙ p12_ends.1

    -- the list of steps: X's remove ends gone, Y's add in conflict after two requests
    p12_story : Story C
    p12_story = record {
      arguments = x_removes ∷ y_adds ∷ [];
      first_zone = c.z;
      last_zone = C.zone c.s₄;
      first_jobs = c.kx ∷ c.ky ∷ [];
      last_jobs = C.job c.s₄ ∷ C.job c.s₃ ∷ [];
      ends = gone ∷ conflict 2 ∷ [];
      formed = c.formed;
      fresh_jobs = one_more c.new_x (one_more c.new_y no_job);
      steps = stepped (stepped (stepped (stepped start 0 c.kx c.s₁ refl c.x_first e₁) 1 c.ky c.s₂ refl c.y_first e₂) 1 (C.job c.s₂) c.s₃ refl c.y_second e₃) 0 (C.job c.s₁) c.s₄ refl c.x_second e₄;
      all_ended = rw (x_ended, y_ended) refl;
    }

    -- the order by the rules, between the zones that the calls had
    y_then_x_lem : Explains (x_removes ∷ y_adds ∷ []) (gone ∷ conflict 2 ∷ []) (C.zone_of c.z) (C.zone_of (C.zone c.s₄)) (1 ∷ 0 ∷ [])
    y_then_x_lem =
        subst (λ (u : rules.Zone). Explains (x_removes ∷ y_adds ∷ []) (gone ∷ conflict 2 ∷ []) u (C.zone_of (C.zone c.s₄)) (1 ∷ 0 ∷ [])) (sym c.held)
        (subst (λ (u : rules.Zone). Explains (x_removes ∷ y_adds ∷ []) (gone ∷ conflict 2 ∷ []) x₀ u (1 ∷ 0 ∷ [])) (sym t₄.zone_is) p12_order)

    no_other_lem : (o : List ℕ) → Explains (x_removes ∷ y_adds ∷ []) (gone ∷ conflict 2 ∷ []) (C.zone_of c.z) (C.zone_of (C.zone c.s₄)) o → o ≡ 1 ∷ 0 ∷ []
    no_other_lem o x =
        p12_no_other (C.zone_of (C.zone c.s₄)) o
        (subst (λ (u : rules.Zone). Explains (x_removes ∷ y_adds ∷ []) (gone ∷ conflict 2 ∷ []) u (C.zone_of (C.zone c.s₄)) o) c.held x)

    x_began_lem : HoldsOf C HasBegun 0 (C.job c.s₁ ∷ c.ky ∷ [])
    x_began_lem = record {
      job = C.job c.s₁;
      its = refl;
      so = λ e. true≢false
          (sym (ap (λ (m : jobs.Job). placed m.stage) t₁.job_is ∙ ap placed p12_began) ∙ ap placed e ∙ fresh_unplaced (C.job_of (C.job c.s₁)).arguments);
    }

    pub p12_explained : Explained C c
    unfolding p12_story own_steps AtFirst
    p12_explained = record {
      story = p12_story;
      zones = (refl, refl);
      jobs = (refl, refl);
      asked = refl;
      ends = refl;
      serial = demand3 C P p12_story (subst HeldHaveAddress (sym c.held) p12_held);
      y_then_x = y_then_x_lem;
      no_other = no_other_lem;
      x_began = inl (inl (inr (refl, refl, x_began_lem)));
    }

-- ---- of the calls that run

pub p12_runs : (c : P12 running) → Explained running c
p12_runs = p12_explained running kept_promises running.Formed Ok taken

-- ---- of those on octets, lent or by value

pub p12_octets : (c : P12 on_octets) → Explained on_octets c
p12_octets = p12_explained on_octets octets_promises on_octets.Formed Ok octets_taken

-- A mixture: X's steps on lent octets, Y's by value, what they return stored.
unfoldable pub p12_mixed : (z z₁ z₂ z₃ z₄ : List ℕ) (kx ky : Job) (x₁ x₂ : StepAnswer) (y₁ y₂ : Stepped)
    → length z ≡ 23936 → formed (zone_in z) ≡ true → zone_of (zone_in z) ≡ held_by_x one_address → NewCall x_removes kx → NewCall y_adds ky
    → StepPromiseIn z kx z₁ x₁
    → StepPromise (zone_in z₁) ky y₁ → Holds z₂ y₁.zone
    → StepPromise y₁.zone y₁.job y₂ → Holds z₃ y₂.zone
    → StepPromiseIn z₃ x₁.job z₄ x₂
    → P12 on_octets
p12_mixed z z₁ z₂ z₃ z₄ kx ky x₁ x₂ y₁ y₂ n f h nx ny p₁ p₂ h₂ p₃ h₃ p₄ = record {
  z = z;
  kx = kx;
  ky = ky;
  s₁ = record { refusal = x₁.refusal; octets = z₁; job = x₁.job };
  s₂ = record { refusal = y₁.refusal; octets = z₂; job = y₁.job };
  s₃ = record { refusal = y₂.refusal; octets = z₃; job = y₂.job };
  s₄ = record { refusal = x₂.refusal; octets = z₄; job = x₂.job };
  formed = (n, f);
  held = h;
  new_x = nx;
  new_y = ny;
  x_first = lent z₁ x₁ p₁;
  y_first = by_value (zone_in z₁) y₁ z₂ (record { size = p₁.size ∙ n; zone_is = refl }) p₂ h₂;
  y_second = by_value y₁.zone y₂ z₃ h₂ p₃ h₃;
  x_second = lent z₄ x₂ p₄;
}
