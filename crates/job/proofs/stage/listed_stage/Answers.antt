use Rattle.std.proofs.Common.{◌≡◌, false, sym, ◌∙◌, rules}
use Rattle.job.specs.Meaning.{numbers_listed}
use Rattle.job.proofs.StageLaws.{stands, unlisted_policy, unlisted_count, unlisted_stage}
use Rattle.job.proofs.stage.listed_stage.Goals as goal
use Rattle.job.proofs.stage.listed_stage.Goals.{else-is_listed-via-then-is_listed+else-can_have, else-is_listed-via-else-is_listed}

pub returns-in_err-stage : goal.returns-in_err-stage
returns-in_err-stage c =
    let j = c.args.job.now in
    let h : numbers_listed j ≡ false = unlisted_stage j (c.in_err-stage.ensures j.count) in
    search rules

pub returns-then-can_have : goal.returns-then-can_have
returns-then-can_have c =
    stands c.args.job.now c.in_ok-stage.stage (c.in_ok-stage.ensures) _ c.policy_at-policy.ensures (sym (c.if-is_listed.ensures)) (sym (c.if-can_have.ensures))

pub returns-else-is_listed : goal.returns-else-is_listed
returns-else-is_listed c =
    let j = c.args.job.now in
    elim c.else-is_listed.branch [
      | else-is_listed-via-then-is_listed+else-can_have w ↦ unlisted_count j c.in_ok-stage.stage (c.in_ok-stage.ensures) _ c.policy_at-policy.ensures (sym w.can_have.ensures ∙ w.if-can_have.false)
      | else-is_listed-via-else-is_listed w ↦ unlisted_policy j c.in_ok-stage.stage (c.in_ok-stage.ensures) _ c.policy_at-policy.ensures (sym c.is_listed.ensures ∙ w.if-is_listed.false)
    ]
