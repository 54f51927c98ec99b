-- P12 as a list of steps, and the claim that the calls can make it. Document 01, "Proof cases".
use Rattle.std.specs.Prelude.{◌≡◌, cond, List, [], ◌∷◌, ℕ, replicate}
use Rattle.std.proofs.Math.Option.{none, some}
use Rattle.octets.specs.Compare.{same_octets}
use Rattle.octets.specs.Count.{Octets, member}
use Rattle.addresses.specs.Addresses.{four, six, Addresses, nothing}
use Rattle.update.specs.Rules as rules
use Rattle.update.specs.Rules.{Host, Update, keep_others}
use Rattle.job.specs.Jobs.{add, remove, Arguments, conflict, gone, ended}
use Rattle.serial.specs.Steps.{Calls, HasBegun, AtFirst}
use Rattle.serial.specs.Demand.{Story, Fitting, Serializable}
use Rattle.serial.specs.Running.{running}
use Rattle.serial.specs.OnOctets.{on_octets}
use Rattle.serial.specs.Values.{ZoneValue, LentValue, JobValue}

-- ---- what is asked

unfoldable pub pipe : Octets
pipe = 4 ∷ 112 ∷ 105 ∷ 112 ∷ 101 ∷ 0 ∷ []

-- A DHCID has 35 octets.
unfoldable pub x_dhcid : Octets
x_dhcid = replicate 35 1

unfoldable pub y_dhcid : Octets
y_dhcid = replicate 35 2

-- 10.0.0.n, and the one that X has.
abbrev pub net10 : ℕ → Octets
net10 n = 10 ∷ 0 ∷ 0 ∷ n ∷ []

abbrev pub address1 : Octets
address1 = net10 1

-- What X asks about a name and an address.
abbrev pub x_update : Octets → Octets → Update
x_update name a = record { name = name; dhcid = x_dhcid; family = four; address = a }

unfoldable pub x_removes : Arguments
x_removes = record { kind = remove; update = x_update pipe address1; policy = keep_others }

-- X adds 10.0.0.n to a name.
unfoldable pub x_adds : Octets → ℕ → Arguments
x_adds name n = record { kind = add; update = x_update name (net10 n); policy = keep_others }

unfoldable pub y_adds : Arguments
y_adds = record { kind = add; update = record { name = pipe; dhcid = y_dhcid; family = four; address = net10 2 }; policy = keep_others }

-- The set of one address, and X's.
unfoldable pub alone : Octets → Addresses
alone a = record { count = 1; has = λ b. member b (a ∷ []) }

abbrev pub one_address : Addresses
one_address = alone address1

unfoldable pub x_host : Addresses → Host
x_host s = record { owner = some x_dhcid; addresses = λ f. elim f [ four ↦ s | six ↦ nothing ] }

-- The zone with these addresses of X at the name that has a key, and no other name; this at pipe; and the zone without names.
abbrev pub held_at : Octets → Addresses → rules.Zone
held_at n s = record { size = 1; at = λ k. cond (same_octets n k) (some (x_host s)) none }

unfoldable pub held_by_x : Addresses → rules.Zone
held_by_x s = held_at pipe s

abbrev pub no_names : rules.Zone
no_names = record { size = 0; at = λ k. none }

-- ---- the steps

-- X holds pipe with one address. X's remove takes its first step, Y's add both of its steps, and X's remove its second.
pub record P12 (C : Calls) : Type 0 where
  pub z : C.Z
  pub kx : C.J
  pub ky : C.J
  pub s₁ : C.R
  pub s₂ : C.R
  pub s₃ : C.R
  pub s₄ : C.R
  pub formed : C.Formed z
  pub held : C.zone_of z ≡ held_by_x one_address
  pub new_x : C.New x_removes kx
  pub new_y : C.New y_adds ky
  pub x_first : C.Step z kx s₁
  pub y_first : C.Step (C.zone s₁) ky s₂
  pub y_second : C.Step (C.zone s₂) (C.job s₂) s₃
  pub x_second : C.Step (C.zone s₃) (C.job s₁) s₄

-- ---- the claim

-- Such steps are a list that demand 3 speaks of and holds of. Y first and X after is an order that fits, and no other does, though X sent its first
-- request before Y: jobs can't be asked to stand in the order of their first requests.
pub record Explained (C : Calls) (c : P12 C) : Type 0 where
  pub story : Story C
  pub zones : (story.first_zone ≡ c.z) × (story.last_zone ≡ C.zone c.s₄)
  pub jobs : (story.first_jobs ≡ c.kx ∷ c.ky ∷ []) × (story.last_jobs ≡ C.job c.s₄ ∷ C.job c.s₃ ∷ [])
  pub asked : story.arguments ≡ x_removes ∷ y_adds ∷ []
  pub ends : story.ends ≡ gone ∷ conflict 2 ∷ []
  pub serial : Serializable C story
  pub y_then_x : Fitting C story (1 ∷ 0 ∷ [])
  pub no_other : (o : List ℕ) → Fitting C story o → o ≡ 1 ∷ 0 ∷ []
  pub x_began : AtFirst C HasBegun story.steps 0 1

-- There are such steps, with zones and jobs that a program can hold. X's remove ends gone, Y's add in conflict after two requests, and the
-- zone at the end has no name.
pub record Happens (C : Calls) (ZoneOk : C.Z → Type 0) (JobOk : C.J → Type 0) : Type 0 where
  pub steps : P12 C
  pub zones : ZoneOk steps.z × ZoneOk (C.zone steps.s₁) × ZoneOk (C.zone steps.s₂) × ZoneOk (C.zone steps.s₃) × ZoneOk (C.zone steps.s₄)
  pub x_jobs : JobOk steps.kx × JobOk (C.job steps.s₁) × JobOk (C.job steps.s₄)
  pub y_jobs : JobOk steps.ky × JobOk (C.job steps.s₂) × JobOk (C.job steps.s₃)
  pub x_ends : (C.job_of (C.job steps.s₄)).stage ≡ ended gone
  pub y_ends : (C.job_of (C.job steps.s₃)).stage ≡ ended (conflict 2)
  pub last_zone : C.zone_of (C.zone steps.s₄) ≡ no_names
  pub explained : Explained C steps

-- Of the calls that run, and of those on a zone that is kept as octets.
abbrev pub P12Runs : Type 0
P12Runs = Happens running ZoneValue JobValue

abbrev pub P12OnOctets : Type 0
P12OnOctets = Happens on_octets LentValue JobValue
