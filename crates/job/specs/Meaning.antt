-- What the structs of a job mean, and their numbers. Document 01, "Zone, requests and jobs".
use Rattle.std.specs.Prelude.{Bool, true, false, cond, ◌&&◌, List, [], ◌∷◌, ℕ, eqb, leb, replicate}
use Rattle.std.proofs.Math.Option.{Option, none, some}
use Rattle.dname.specs.declared.name.Name.{Name}
use Rattle.zone.specs.declared.entry.Dhcid.{Dhcid}
use Rattle.zone.specs.declared.entry.Address.{Address}
use Rattle.update.specs.Meaning.{listed, policy_of, update_of}
use Rattle.job.specs.declared.job.Job.{Job}
use Rattle.job.specs.Jobs as rules
use Rattle.job.specs.Jobs.{add, remove, Arguments, done, conflict, no_room, gave_up, not_ours, gone, kept, Stage, before_a, before_b, before_first, before_second, ended, possible, first_stage, sent}

-- ---- the numbers of stages

-- The number of each stage. No other number is listed.
unfoldable pub stage_number : Stage → ℕ
stage_number (before_a n) = 1
stage_number (before_b n) = 2
stage_number (ended (done n)) = 3
stage_number (ended (conflict n)) = 4
stage_number (ended (no_room n)) = 5
stage_number (ended (gave_up n)) = 6
stage_number before_first = 11
stage_number before_second = 12
stage_number (ended not_ours) = 13
stage_number (ended gone) = 14
stage_number (ended kept) = 15

-- Every stage, an add's with this count.
abbrev pub stages : ℕ → List Stage
stages n =
    before_a n ∷ before_b n ∷ ended (done n) ∷ ended (conflict n) ∷ ended (no_room n) ∷ ended (gave_up n)
    ∷ before_first ∷ before_second ∷ ended not_ours ∷ ended gone ∷ ended kept ∷ []

-- The one of these stages that has a number, or none.
unfoldable pub numbered : ℕ → List Stage → Option Stage
numbered number [] = none
numbered number (s ∷ l) = cond (eqb (stage_number s) number) (some s) (numbered number l)

-- The stage that a number and a count stand for; none where the number is not listed.
unfoldable pub stage_at : ℕ → ℕ → Option Stage
stage_at number count = numbered number (stages count)

-- The number is a stage's, and the stage can have the count.
abbrev pub allowed : Option Stage → Bool
allowed none = false
allowed (some s) = possible s

unfoldable pub can_have : ℕ → ℕ → Bool
can_have stage count = allowed (stage_at stage count)

-- The stage of a job. A job whose number is not listed is refused, and whatever stands for its stage here is not used.
abbrev pub or_kept : Option Stage → Stage
or_kept none = ended kept
or_kept (some s) = s

unfoldable pub stage_of : ℕ → ℕ → Stage
stage_of stage count = or_kept (stage_at stage count)

-- The number is a stage's, and the stage is an end.
abbrev pub is_end : Option Stage → Bool
is_end none = false
is_end (some (before_a n)) = false
is_end (some (before_b n)) = false
is_end (some before_first) = false
is_end (some before_second) = false
is_end (some (ended e)) = true

-- The count at a stage: an add's is the stage's; a remove has none, and keeps whatever number stood there.
abbrev pub counted : Stage → Option ℕ
counted (before_a n) = some n
counted (before_b n) = some n
counted (ended e) = sent e
counted before_first = none
counted before_second = none

abbrev pub or_stood : Option ℕ → ℕ → ℕ
or_stood none m = m
or_stood (some n) m = n

unfoldable pub stage_count : Stage → ℕ → ℕ
stage_count s m = or_stood (counted s) m

-- The stage's number alone tells an add from a remove.
unfoldable pub is_add : ℕ → Bool
is_add stage = leb stage 6

-- ---- a job

unfoldable pub arguments_of : Job → Arguments
arguments_of j = record {
  kind = cond (is_add j.stage) add remove;
  update = update_of j.name j.dhcid j.family j.address;
  policy = policy_of j.policy;
}

unfoldable pub job_of : Job → rules.Job
job_of j = record { arguments = arguments_of j; stage = stage_of j.stage j.count }

-- The same job at a stage.
unfoldable pub at_stage : Job → Stage → Job
at_stage j s = record {
  stage = stage_number s;
  count = stage_count s j.count;
  family = j.family;
  policy = j.policy;
  name = j.name;
  dhcid = j.dhcid;
  address = j.address;
}

-- Its numbers are listed, and its stage can have its count: anything else is refusal 18. Nothing is asked of a remove's policy and count.
unfoldable pub numbers_listed : Job → Bool
numbers_listed j = listed j.family (cond (is_add j.stage) j.policy 0) && can_have j.stage j.count

-- Whether it has ended, 1 for yes and 0 for no. Its count makes no difference, nor does anything else but its stage.
unfoldable pub has_ended : Job → ℕ
has_ended j = cond (is_end (stage_at j.stage j.count)) 1 0

-- A fresh job of each kind. A remove has no policy and no count: 0 stands there.
unfoldable pub fresh_add : Name → Dhcid → ℕ → Address → ℕ → Job
fresh_add n d family a policy = record { stage = stage_number (first_stage add); count = 0; family = family; policy = policy; name = n; dhcid = d; address = a }

unfoldable pub fresh_remove : Name → Dhcid → ℕ → Address → Job
fresh_remove n d family a = record { stage = stage_number (first_stage remove); count = 0; family = family; policy = 0; name = n; dhcid = d; address = a }

-- The one job that a refused call gives: nothing but zeros, which is no job.
unfoldable pub blank : Job
blank = record {
  stage = 0;
  count = 0;
  family = 0;
  policy = 0;
  name = record { octets = replicate 255 0; len = 0 };
  dhcid = record { octets = replicate 35 0 };
  address = record { octets = replicate 16 0 };
}
