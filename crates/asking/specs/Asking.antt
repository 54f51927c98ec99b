-- How long an add keeps asking: the requests that it sends, against how often its name is deleted between them. Document 02, k).
use Rattle.std.specs.Prelude.{◌≡◌, Bool, true, false, cond, not, ◌&&◌, List, ℕ, ◌+◌, ◌*◌, ◌≤◌, ltb}
use Rattle.std.proofs.Math.Option.{some}
use Rattle.std.proofs.Math.ListN.{get_elem?}
use Rattle.octets.specs.Compare.{same_octets}
use Rattle.octets.specs.Count.{Octets}
use Rattle.dname.specs.Name.{key}
use Rattle.update.specs.Rules.{there, at_key}
use Rattle.job.specs.Jobs.{add, Arguments, End, done, conflict, no_room, gave_up, not_ours, gone, kept, Stage, before_a, before_b, before_first, before_second, ended, Job, sent}
use Rattle.serial.specs.Steps.{Calls, going, Fresh, Steps, start, stepped, refused, own_steps}

-- ---- deletions

-- The next request of a job is its second remove request; a job has ended with its name gone.
abbrev pub is_second : Stage → Bool
is_second (before_a n) = false
is_second (before_b n) = false
is_second before_first = false
is_second before_second = true
is_second (ended e) = false

abbrev pub is_gone : End → Bool
is_gone (done n) = false
is_gone (conflict n) = false
is_gone (no_room n) = false
is_gone (gave_up n) = false
is_gone not_ours = false
is_gone gone = true
is_gone kept = false

abbrev pub ended_gone : Stage → Bool
ended_gone (before_a n) = false
ended_gone (before_b n) = false
ended_gone before_first = false
ended_gone before_second = false
ended_gone (ended e) = is_gone e

-- The request that brought a job to a stage deleted a name: it was the second remove request of a job for the same name, and the job ended with
-- its name gone.
unfoldable pub deletes : Octets → Job → Stage → Bool
deletes n k after = (is_second k.stage && ended_gone after) && same_octets (key k.arguments.update.name) (key n)

-- A step stands behind a job's first request where the job had sent one before it, and before the last of m where it had not sent all.
unfoldable pub begun : ℕ → Bool
begun sent = ltb 0 sent

unfoldable pub unfinished : ℕ → ℕ → Bool
unfinished sent m = ltb sent m

module _ (C : Calls) where
  -- How often a name was deleted in a list of steps between the first of the m requests of job i and the last.
  unfoldable pub deletions : {z₀ : C.Z} {ks₀ : List C.J} {z : C.Z} {ks : List C.J} → Steps C z₀ ks₀ z ks → ℕ → Octets → ℕ → ℕ
  deletions start i n m = 0
  deletions (stepped l x k r g p q) i n m =
      deletions l i n m + cond (deletes n (C.job_of k) (C.job_of (C.job r)).stage && (begun (own_steps C l i) && unfinished (own_steps C l i) m)) 1 0
  deletions (refused l y k r p q) i n m = deletions l i n m

-- ---- an add in a list of steps

-- A list of steps of fresh jobs, as demand 3 has them, and one of its adds as it stands at the end, ended or not.
pub record Add (C : Calls) : Type 0 where
  pub arguments : List Arguments
  pub first_zone : C.Z
  pub last_zone : C.Z
  pub first_jobs : List C.J
  pub last_jobs : List C.J
  pub formed : C.Formed first_zone
  pub fresh_jobs : Fresh C arguments first_jobs
  pub steps : Steps C first_zone first_jobs last_zone last_jobs
  pub number : ℕ
  pub job : C.J
  pub its : get_elem? last_jobs number ≡ some job
  pub is_add : (C.job_of job).arguments.kind ≡ add

module _ (C : Calls) (a : Add C) where
  abbrev pub stage : Stage
  stage = (C.job_of a.job).stage

  abbrev pub name : Octets
  name = (C.job_of a.job).arguments.update.name

  -- The requests that it has sent.
  abbrev pub requests : ℕ
  requests = own_steps C a.steps a.number

  -- r: how often its name was deleted between the first of them and the last.
  abbrev pub deleted_between : ℕ
  deleted_between = deletions C a.steps a.number name requests

-- ---- the claim

-- The most requests of an add whose name is deleted r times between its first and its last, and of one that has not ended.
unfoldable pub most : ℕ → ℕ
most r = 2 + 2 * r

unfoldable pub most_going : ℕ → ℕ
most_going r = 1 + 2 * r

pub record Asking (C : Calls) : Type 0 where
  -- ended or not, an add has sent no more, and never more than six
  pub at_most : (a : Add C) → requests C a ≤ most (deleted_between C a)
  pub six_at_most : (a : Add C) → requests C a ≤ 6
  -- one that has not ended has sent one fewer
  pub still_going : (a : Add C) → going (stage C a) ≡ true → requests C a ≤ most_going (deleted_between C a)
  -- the name of one that gave up was deleted three times or more
  pub gave_up_after : (a : Add C) (n : ℕ) → stage C a ≡ ended (gave_up n) → 3 ≤ deleted_between C a
  -- the count that an add reports is the number of its requests
  pub reported : (a : Add C) (e : End) (n : ℕ) → stage C a ≡ ended e → sent e ≡ some n → n ≡ requests C a

-- ---- that deletions are what they are called

-- A step deletes a name exactly if the name stood before it and does not stand after it.
abbrev pub TakesName : Calls → Type 0
TakesName C =
    (z : C.Z) (k : C.J) (r : C.R) → C.Step z k r → C.refusal r ≡ 0
    → (n : Octets) → deletes n (C.job_of k) (C.job_of (C.job r)).stage ≡ (there (at_key n (C.zone_of z)) && not (there (at_key n (C.zone_of (C.zone r)))))
