use Rattle.std.proofs.Common.{not, sym, ap, ◌∙◌, eq-eqb}
use Rattle.update.proofs.PrerequisiteLaws.{held_static, held_other}
use Rattle.update.proofs.prerequisite.is_held.Goals as goal

pub returns-then-kind-ne1 : goal.returns-then-kind-ne1
returns-then-kind-ne1 c = c.same.ensures ∙ sym (held_other _ _ _ c.if-kind-ne1.true)

pub returns-else-kind-ne1 : goal.returns-else-kind-ne1
returns-else-kind-ne1 c = ap not (eq-eqb _ _ c.if-kind-ne1.false) ∙ sym (held_static _ _ _ c.if-kind-ne1.false)
