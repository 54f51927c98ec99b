use Rattle.std.proofs.Common.{◌<◌, arith}
use borrow.Author.Tests.{eq-eqb}
use Rattle.step.proofs.StepLaws.{count_add, idle_stays}
use Rattle.step.proofs.onward.onward.Goals as goal

pub overflow_add-job : goal.overflow_add-job
overflow_add-job c = let h : c.args.job.now.count < 6 = count_add c.args.job.now c.args.stage c.requires c.in-BeforeA.is in omega arith

pub returns-in_default : goal.returns-in_default
returns-in_default c =
    rw (eq-eqb _ _ c.if-refusal-ne0.false)
    (idle_stays c.args.job.now c.args.stage c.args.answer (record { not_a = c.in_default.not-BeforeA; not_b = c.in_default.not-BeforeB; not_first = c.in_default.not-BeforeFirst; not_second = c.in_default.not-BeforeSecond }) c.requires)
