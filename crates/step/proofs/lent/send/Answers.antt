use Rattle.step.proofs.LentLaws.{sent_idle_in}
use Rattle.step.proofs.lent.send.Goals as goal

pub returns-in_default : goal.returns-in_default
returns-in_default c =
    sent_idle_in c.args.octets.now c.args.job.now c.args.stage _ (record { not_a = c.in_default.not-BeforeA; not_b = c.in_default.not-BeforeB; not_first = c.in_default.not-BeforeFirst; not_second = c.in_default.not-BeforeSecond }) c.jespurla_zone_check_lent-checked.ensures
