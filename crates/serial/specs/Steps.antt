-- Lists of job steps: the calls, fresh jobs, steps in any mixture, and what is read off such a list. Document 01, "Zone, requests and jobs".
use Rattle.std.specs.Prelude.{◌≡◌, Bool, false, cond, not, ◌&&◌, List, [], ◌∷◌, ◌⊎◌, ℕ, ◌+◌, eqb, set}
use Rattle.std.proofs.Math.Option.{Option, none, some}
use Rattle.std.proofs.Math.ListN.{get_elem?}
use Rattle.update.specs.Rules.{Zone, Form, there}
use Rattle.job.specs.Jobs.{Arguments, End, Stage, before_a, before_b, before_first, before_second, ended, Job, fresh, step}

-- ---- the calls

-- The exported calls: the zone and the job that a program holds, and what they mean; what a job step returns; and what is known of a call that
-- has been made. specs/Running.antt gives them for the calls that run, specs/OnOctets.antt for those on a zone that is kept as octets.
pub record Calls : Type 1 where
  pub Z : Type 0
  pub J : Type 0
  pub R : Type 0
  pub zone_of : Z → Zone
  pub job_of : J → Job
  pub refusal : R → ℕ
  pub zone : R → Z
  pub job : R → J
  -- the zone is not refusal 17
  pub Formed : Z → Type 0
  -- a new job call with these arguments was not refused, and gave this job
  pub New : Arguments → J → Type 0
  -- a job step with this zone and this job returned this
  pub Step : Z → J → R → Type 0

-- What the proof needs of them.
pub record Promises (C : Calls) : Type 0 where
  pub formed : (z : C.Z) → C.Formed z → Form (C.zone_of z)
  pub new : (j : Arguments) (k : C.J) → C.New j k → C.job_of k ≡ record { arguments = j; stage = fresh j }
  pub zone_after : (z : C.Z) (k : C.J) (r : C.R) → C.Step z k r → C.refusal r ≡ 0
      → C.zone_of (C.zone r) ≡ (step (C.job_of k).arguments (C.zone_of z) (C.job_of k).stage).zone
  pub job_after : (z : C.Z) (k : C.J) (r : C.R) → C.Step z k r → C.refusal r ≡ 0
      → C.job_of (C.job r) ≡ record { arguments = (C.job_of k).arguments; stage = (step (C.job_of k).arguments (C.zone_of z) (C.job_of k).stage).stage }

-- ---- the end of a job

-- How a job at a stage has ended, if it has.
abbrev pub end_at : Stage → Option End
end_at (before_a n) = none
end_at (before_b n) = none
end_at before_first = none
end_at before_second = none
end_at (ended e) = some e

-- It has not, and its next step is a request.
abbrev pub going : Stage → Bool
going s = not (there (end_at s))

-- ---- the list of steps

module _ (C : Calls) where
  -- Fresh jobs: what new job calls gave that were not refused. Jobs may be alike.
  pub data Fresh : List Arguments → List C.J → Type 0 where
    no_job : Fresh [] []
    one_more : {j : Arguments} {k : C.J} {js : List Arguments} {ks : List C.J} → C.New j k → Fresh js ks → Fresh (j ∷ js) (k ∷ ks)

  -- A list of steps, from a zone and jobs to a zone and the jobs as they then stand. A step that is not refused gets the zone that stands and
  -- one of the jobs as it stands, and what it returns stands from then on. A refused step may be handed anything, and changes neither.
  pub data Steps (z₀ : C.Z) (ks₀ : List C.J) : C.Z → List C.J → Type 0 where
    start : Steps z₀ ks₀ z₀ ks₀
    stepped : {z : C.Z} {ks : List C.J} → Steps z₀ ks₀ z ks
        → (i : ℕ) (k : C.J) (r : C.R) → get_elem? ks i ≡ some k → C.Step z k r → C.refusal r ≡ 0
        → Steps z₀ ks₀ (C.zone r) (set ks i (C.job r))
    refused : {z : C.Z} {ks : List C.J} → Steps z₀ ks₀ z ks
        → (y : C.Z) (k : C.J) (r : C.R) → C.Step y k r → ¬ (C.refusal r ≡ 0)
        → Steps z₀ ks₀ z ks

  -- ---- what is read off it

  -- The number of a job's own steps up to its end, refused ones aside: the requests that it has sent.
  unfoldable pub own_steps : {z₀ : C.Z} {ks₀ : List C.J} {z : C.Z} {ks : List C.J} → Steps z₀ ks₀ z ks → ℕ → ℕ
  own_steps start i = 0
  own_steps (stepped l n k r g p q) i = own_steps l i + cond (eqb n i && going (C.job_of k).stage) 1 0
  own_steps (refused l y k r p q) i = own_steps l i

  -- No step of a job that wasn't refused changed the zone.
  unfoldable pub ChangedNothing : {z₀ : C.Z} {ks₀ : List C.J} {z : C.Z} {ks : List C.J} → Steps z₀ ks₀ z ks → ℕ → Type 0
  ChangedNothing start i = Unit
  ChangedNothing (stepped {z = z} l n k r g p q) i = ChangedNothing l i × (n ≡ i → C.zone_of (C.zone r) ≡ C.zone_of z)
  ChangedNothing (refused l y k r p q) i = ChangedNothing l i

-- ---- which of two jobs came first

-- A job has sent a request, as its stage is no longer that of a fresh job; it has ended.
abbrev pub HasBegun : Job → Type 0
HasBegun k = ¬ (k.stage ≡ fresh k.arguments)

abbrev pub HasEnded : Job → Type 0
HasEnded k = going k.stage ≡ false

module _ (C : Calls) where
  -- This holds of job i, as the jobs stand.
  pub record HoldsOf (P : Job → Type 0) (i : ℕ) (ks : List C.J) : Type 0 where
    pub job : C.J
    pub its : get_elem? ks i ≡ some job
    pub so : P (C.job_of job)

  -- This held of job a when job b sent its first request: one of the steps is of b, which had sent none before it.
  unfoldable pub AtFirst : (Job → Type 0) → {z₀ : C.Z} {ks₀ : List C.J} {z : C.Z} {ks : List C.J} → Steps C z₀ ks₀ z ks → ℕ → ℕ → Type 0
  AtFirst P start a b = ⊥
  AtFirst P (stepped {ks = ks} l i k r g p q) a b = AtFirst P l a b ⊎ ((i ≡ b) × (own_steps C l b ≡ 0) × HoldsOf P a ks)
  AtFirst P (refused l y k r p q) a b = AtFirst P l a b

  -- Job a ended before job b sent its first request.
  abbrev pub EndedFirst : {z₀ z : C.Z} {ks₀ ks : List C.J} → Steps C z₀ ks₀ z ks → ℕ → ℕ → Type 0
  EndedFirst l a b = AtFirst HasEnded l a b
