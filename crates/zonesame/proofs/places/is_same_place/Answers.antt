use Rattle.std.proofs.Common.{◌∙◌}
use borrow.Author.Tests.{ne_eqb}
use Rattle.zonesame.proofs.PlacesLaws.{other_kind, same_kind}
use Rattle.zonesame.proofs.places.is_same_place.Goals as goal

pub returns-then-a-b : goal.returns-then-a-b
returns-then-a-b c = c.same.ensures ∙ same_kind c.args.a.now c.args.b.now c.if-a-b.true

pub returns-else-a-b : goal.returns-else-a-b
returns-else-a-b c = ne_eqb _ _ c.if-a-b.false ∙ other_kind _ _ c.if-a-b.false
