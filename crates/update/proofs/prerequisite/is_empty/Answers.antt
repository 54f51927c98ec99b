use Rattle.std.proofs.Common.{◌∙◌, ◌&&◌, Bool, ap, eqb, length}
use Rattle.addresses.specs.Addresses.{list6}
use Rattle.update.specs.Rules.{empty}
use Rattle.update.specs.Meaning.{host_of}
use Rattle.update.proofs.prerequisite.is_empty.Goals as goal

pub returns-then-is_empty : goal.returns-then-is_empty
unfolding empty host_of
returns-then-is_empty c = λ n. c.is_empty-then-is_empty.ensures ∙ ap (λ (b : Bool). b && eqb (length (list6 c.args.e.v6)) 0) c.if-is_empty.ensures

pub returns-else-is_empty : goal.returns-else-is_empty
unfolding empty host_of
returns-else-is_empty c = λ n. c.if-is_empty.false ∙ ap (λ (b : Bool). b && eqb (length (list6 c.args.e.v6)) 0) c.if-is_empty.ensures
