use Rattle.std.proofs.Common.{sym, ◌∙◌}
use Rattle.step.proofs.StepLaws.{form_fails, form_holds, refused_form, refused_numbers}
use Rattle.step.proofs.refuse.Goals as goal

pub returns-then-checked-eq-BROKEN_ZONE : goal.returns-then-checked-eq-BROKEN_ZONE
returns-then-checked-eq-BROKEN_ZONE c =
    let z = c.args.zone in
    let j = c.args.job in
    refused_form z j (form_fails z j 0 (sym c.jespurla_zone_check-checked.ensures ∙ c.if-checked-eq-BROKEN_ZONE.true))

pub returns-else-checked-eq-BROKEN_ZONE : goal.returns-else-checked-eq-BROKEN_ZONE
returns-else-checked-eq-BROKEN_ZONE c =
    let z = c.args.zone in
    let j = c.args.job in
    refused_numbers z j (form_holds z j 0 (λ e. c.if-checked-eq-BROKEN_ZONE.false (c.jespurla_zone_check-checked.ensures ∙ e))) c.requires
