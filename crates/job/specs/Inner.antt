-- The stages of the code, and a job at the stage that an answer leads it to. No promise of an exported call cites these.
use Rattle.std.specs.Prelude.{◌≡◌, Bool, true, cond, ℕ, eqb, Result, Ok, Err, MatchResult}
use Rattle.std.proofs.Math.Option.{none, some}
use Rattle.update.specs.Rules.{Answer, success, NXDOMAIN, YXDOMAIN, YXRRSET, NXRRSET, no_room}
use Rattle.job.specs.declared.job.Job.{Job}
use Rattle.job.specs.declared.stage.Stage as code
use Rattle.job.specs.declared.stage.Stage.TheVariants.{BeforeA, BeforeB, Done, Conflict, NoRoom, GaveUp, BeforeFirst, BeforeSecond, NotOurs, Gone, Kept}
use Rattle.job.specs.declared.stage.Unlisted.{Unlisted}
use Rattle.job.specs.declared.fresh.Refusal.{Refusal}
use Rattle.job.specs.declared.fresh.Refusal.TheVariants.{NameNotFull, UnlistedNumber}
use Rattle.job.specs.Jobs as rules
use Rattle.job.specs.Jobs.{Stage, before_a, before_b, before_first, before_second, ended, done, conflict, gave_up, not_ours, gone, kept}
use Rattle.job.specs.Meaning.{stage_number, stage_at, is_end, at_stage, numbers_listed}

-- The stage that a stage of the code and a count stand for.
abbrev pub staged : code.Stage → ℕ → Stage
staged BeforeA n = before_a n
staged BeforeB n = before_b n
staged Done n = ended (done n)
staged Conflict n = ended (conflict n)
staged NoRoom n = ended (rules.no_room n)
staged GaveUp n = ended (gave_up n)
staged BeforeFirst n = before_first
staged BeforeSecond n = before_second
staged NotOurs n = ended not_ours
staged Gone n = ended gone
staged Kept n = ended kept

abbrev pub is_over : Stage → Bool
is_over s = is_end (some s)

-- A number converted: the stage that has the number, or there is none.
abbrev pub Decodes : ℕ → Result code.Stage Unlisted → Type 0
Decodes number r = MatchResult r (λ s. stage_number (staged s 0) ≡ number) (λ e. (count : ℕ) → stage_at number count ≡ none)

-- A job's numbers are listed, and it stands at that stage.
pub record Stands (j : Job) (s : code.Stage) : Type 0 where
  pub listed_is : numbers_listed j ≡ true
  pub at_is : stage_at j.stage j.count ≡ some (staged s j.count)

-- The answer that a number stands for; any number that is no answer's counts as that of NXDOMAIN.
unfoldable pub answer_of : ℕ → Answer
answer_of number =
    cond (eqb number 0) success
    (cond (eqb number 6) YXDOMAIN
    (cond (eqb number 7) YXRRSET
    (cond (eqb number 8) NXRRSET
    (cond (eqb number 256) no_room
    NXDOMAIN))))

-- The job at the stage that the rule gives for the answer.
abbrev pub led : Job → (Answer → Stage) → ℕ → Job
led j rule number = at_stage j (rule (answer_of number))

-- The number of a refusal, 0 where there is none.
abbrev pub refusal_number : {A : Type 0} → Result A Refusal → ℕ
refusal_number (Ok a) = 0
refusal_number (Err NameNotFull) = 11
refusal_number (Err UnlistedNumber) = 18
