use Rattle.std.proofs.Common.{eq-eqb, ne_eqb}
use Rattle.zone.specs.Meaning.{used}
use Rattle.zone.specs.Survey.{named}
use Rattle.zone.proofs.entry.is_named.Goals as goal

pub returns-then-e-ne0 : goal.returns-then-e-ne0
unfolding used named
returns-then-e-ne0 c = simp (ne_eqb _ _ c.if-e-ne0.true) (rw (c.same_name.ensures, c.octets.ensures, c.octets-then-e-ne0.ensures))

pub returns-else-e-ne0 : goal.returns-else-e-ne0
unfolding used named
returns-else-e-ne0 c = simp (eq-eqb _ _ c.if-e-ne0.false)
