use Rattle.std.proofs.Common.{List, ℕ, ◌∙◌, ap}
use borrow.Author.Tests.{eq-eqb, ne_eqb}
use Rattle.octets.specs.Compare.{same_octets}
use Rattle.zone.specs.Meaning.{used}
use Rattle.zonesame.specs.Inner.{spelled_so}
use Rattle.zonesame.proofs.directory.is_spelled.Goals as goal

pub returns-then-place-ne0 : goal.returns-then-place-ne0
unfolding used spelled_so
returns-then-place-ne0 c = simp (ne_eqb _ _ c.if-place-ne0.true) (c.same.ensures ∙ ap (λ (l : List ℕ). same_octets l c.args.n.now) c.name_at.ensures)

pub returns-else-place-ne0 : goal.returns-else-place-ne0
unfolding used spelled_so
returns-else-place-ne0 c = simp (eq-eqb _ _ c.if-place-ne0.false)
