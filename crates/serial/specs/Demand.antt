-- Demand 3: what it claims of a list of job steps. Document 01, "Zone, requests and jobs", with document 02, n).
use Rattle.std.specs.Prelude.{◌≡◌, true, false, List, map, ℕ, ◌≤◌, ◌<◌}
use Rattle.std.proofs.Math.Option.{some}
use Rattle.std.proofs.Math.ListN.{get_elem?}
use Rattle.octets.specs.Count.{Octets}
use Rattle.dname.specs.Name.{same_name}
use Rattle.update.specs.Rules.{Host, Zone, empty}
use Rattle.job.specs.Jobs.{Kind, add, remove, Arguments, End, sent}
use Rattle.serial.specs.Steps.{Calls, end_at, going, Fresh, Steps, own_steps, ChangedNothing, EndedFirst}
use Rattle.serial.specs.Order.{is_left_out, StandsOnce, Before, Explains}

-- A list of steps of fresh jobs after which each job has ended.
pub record Story (C : Calls) : Type 0 where
  pub arguments : List Arguments
  pub first_zone : C.Z
  pub last_zone : C.Z
  pub first_jobs : List C.J
  pub last_jobs : List C.J
  pub ends : List End
  pub formed : C.Formed first_zone
  pub fresh_jobs : Fresh C arguments first_jobs
  pub steps : Steps C first_zone first_jobs last_zone last_jobs
  pub all_ended : map (λ (k : C.J). end_at (C.job_of k).stage) last_jobs ≡ map some ends

-- Every held name has an address.
abbrev pub HeldHaveAddress : Zone → Type 0
HeldHaveAddress z = (k : Octets) (h : Host) (dhcid : Octets) → z.at k ≡ some h → h.owner ≡ some dhcid → empty h ≡ false

module _ (C : Calls) (s : Story C) where
  -- Two jobs are on the same name, as document 02, a), compares names.
  pub record OnOneName (a b : ℕ) : Type 0 where
    pub first : Arguments
    pub second : Arguments
    pub is_a : get_elem? s.arguments a ≡ some first
    pub is_b : get_elem? s.arguments b ≡ some second
    pub same : same_name first.update.name second.update.name ≡ true

  -- If job a ended before job b sent its first request, it also stands before it in the order, where both stand in it.
  abbrev pub AsSeen : List ℕ → ℕ → ℕ → Type 0
  AsSeen o a b = EndedFirst C s.steps a b → StandsOnce a o → StandsOnce b o → Before a b o

  -- An order that fits: it explains the list, from its first zone to its last.
  abbrev pub Fitting : List ℕ → Type 0
  Fitting o = Explains s.arguments s.ends (C.zone_of s.first_zone) (C.zone_of s.last_zone) o

  -- ---- the claim

  pub record Serializable : Type 0 where
    -- demand 3: some order of all jobs but those left out leads from the same zone to the same zone, and every add gets the same answer
    pub order : List ℕ
    pub explains : Fitting order
    -- n): in that order, of two jobs on the same name, one that ended before the other sent its first request stands before it
    pub as_seen : (a b : ℕ) → OnOneName a b → AsSeen order a b
    -- the count that an add reports is the number of its own steps up to its end
    pub counts : (i : ℕ) (e : End) (n : ℕ) → get_elem? s.ends i ≡ some e → sent e ≡ some n → n ≡ own_steps C s.steps i
    -- adds that ended no room or gave up changed nothing, at any of their steps
    pub left_out : (i : ℕ) (e : End) → get_elem? s.ends i ≡ some e → is_left_out e ≡ true → ChangedNothing C s.steps i

-- Demand 3 and n), with demand 3's premises.
abbrev pub Demand3 : Calls → Type 0
Demand3 C = (s : Story C) → HeldHaveAddress (C.zone_of s.first_zone) → Serializable C s

-- ---- what is shown beyond it

-- The same from every zone of good form, held names without addresses or not, and with jobs as they were seen whatever their names.
abbrev pub Stronger : Calls → Type 0
Stronger C = (s : Story C) → (r : Serializable C s) × ((a b : ℕ) → AsSeen C s r.order a b)

-- As a theorem of its own: an add that ended no room or gave up changed nothing.
abbrev pub LeftOutIdle : Calls → Type 0
LeftOutIdle C = (s : Story C) (i : ℕ) (e : End) → get_elem? s.ends i ≡ some e → is_left_out e ≡ true → ChangedNothing C s.steps i

-- ---- that the claim is not empty

-- The most requests that a job sends.
abbrev pub most : Kind → ℕ
most add = 6
most remove = 2

-- A job of the list that has not ended has sent fewer.
abbrev pub EndsInTime : Calls → Type 0
EndsInTime C =
    (z₀ z : C.Z) (js : List Arguments) (ks₀ ks : List C.J) → C.Formed z₀ → Fresh C js ks₀ → (l : Steps C z₀ ks₀ z ks)
    → (i : ℕ) (k : C.J) → get_elem? ks i ≡ some k → going (C.job_of k).stage ≡ true → own_steps C l i < most (C.job_of k).arguments.kind

-- No step of a job of the list, as it stands, on the zone that stands, is refused.
abbrev pub NeverRefused : Calls → Type 0
NeverRefused C =
    (z₀ z : C.Z) (js : List Arguments) (ks₀ ks : List C.J) → C.Formed z₀ → Fresh C js ks₀ → Steps C z₀ ks₀ z ks
    → (i : ℕ) (k : C.J) (r : C.R) → get_elem? ks i ≡ some k → C.Step z k r → C.refusal r ≡ 0

-- No add reports more than six requests.
abbrev pub SixAtMost : Calls → Type 0
SixAtMost C = (s : Story C) (i : ℕ) (e : End) (n : ℕ) → get_elem? s.ends i ≡ some e → sent e ≡ some n → n ≤ 6

-- ---- that a list may leave the zone and the jobs as they were where a step is refused

-- A refused step leaves the very zone and job that it was handed.
abbrev pub RefusedKeeps : Calls → Type 0
RefusedKeeps C = (z : C.Z) (k : C.J) (r : C.R) → C.Step z k r → ¬ (C.refusal r ≡ 0) → (C.zone r ≡ z) × (C.job r ≡ k)

-- ---- all of it

-- Demand 3 with n); what is shown beyond it; and that it is not empty.
pub record Delivered (C : Calls) : Type 0 where
  pub demand3 : Demand3 C
  pub stronger : Stronger C
  pub left_out_idle : LeftOutIdle C
  pub ends_in_time : EndsInTime C
  pub never_refused : NeverRefused C
  pub six_at_most : SixAtMost C
