use Rattle.std.proofs.Common.{ne_eqb, sym, ◌∙◌}
use Rattle.octets.proofs.CompareLaws.{same_pairs, same_lengths}
use Rattle.octets.proofs.compare.same.Goals as goal

pub returns-then-a-b : goal.returns-then-a-b
returns-then-a-b c = c.agree.ensures ∙ same_pairs _ _ c.if-a-b.true

pub returns-else-a-b : goal.returns-else-a-b
returns-else-a-b c = rw (ne_eqb _ _ c.if-a-b.false) (sym (same_lengths _ _ c.if-a-b.false))
