use Rattle.step.proofs.LentLaws.{form_in, numbers_in}
use Rattle.step.proofs.lent.refuse.Goals as goal

pub returns-then-checked-eq-BROKEN_ZONE : goal.returns-then-checked-eq-BROKEN_ZONE
returns-then-checked-eq-BROKEN_ZONE c = form_in c.args.octets.now c.args.job _ c.jespurla_zone_check_lent-checked.ensures c.if-checked-eq-BROKEN_ZONE.true

pub returns-else-checked-eq-BROKEN_ZONE : goal.returns-else-checked-eq-BROKEN_ZONE
returns-else-checked-eq-BROKEN_ZONE c = numbers_in c.args.octets.now c.args.job _ c.jespurla_zone_check_lent-checked.ensures c.if-checked-eq-BROKEN_ZONE.false c.requires
