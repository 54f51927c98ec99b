use Rattle.std.proofs.Common.{not, ap, ◌∙◌, eq-eqb}
use Rattle.zonesame.proofs.HostLaws.{owner_static, owner_other, owner_held}
use Rattle.zonesame.proofs.host.is_same_owner.Goals as goal

pub returns-then-a-eq1 : goal.returns-then-a-eq1
returns-then-a-eq1 c = owner_static _ _ c.if-a-eq1.true

pub returns-then-b-ne1 : goal.returns-then-b-ne1
returns-then-b-ne1 c = c.same.ensures ∙ owner_held _ _ c.if-a-eq1.false c.if-b-ne1.true

pub returns-else-b-ne1 : goal.returns-else-b-ne1
returns-else-b-ne1 c = ap not (eq-eqb _ _ c.if-b-ne1.false) ∙ owner_other _ _ c.if-a-eq1.false c.if-b-ne1.false
