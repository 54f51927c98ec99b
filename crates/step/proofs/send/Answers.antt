use Rattle.step.proofs.StepLaws.{sent_idle}
use Rattle.step.proofs.send.Goals as goal

pub returns-in_default : goal.returns-in_default
returns-in_default c =
    sent_idle c.args.zone.now c.args.job.now c.args.stage _ (record { not_a = c.in_default.not-BeforeA; not_b = c.in_default.not-BeforeB; not_first = c.in_default.not-BeforeFirst; not_second = c.in_default.not-BeforeSecond }) c.check.ensures
