use Rattle.std.proofs.Common.{arith, ◌∙◌, le-leb, ne_eqb}
use Rattle.lease.proofs.KeyLaws.{match_apart, match_alike}
use Rattle.lease.proofs.key.do_match.Goals as goal

pub returns-then-n-le-LEADING : goal.returns-then-n-le-LEADING
returns-then-n-le-LEADING c = le-leb _ _ c.if-n-le-LEADING.true ∙ match_alike _ _ _ c.leading_of.ensures c.leading_of-2.ensures c.if-leading_of.true (omega arith) (omega arith) c.if-n-le-LEADING.true (λ i. (c.type_inv.a i).fits) (λ i. (c.type_inv.b i).fits)

pub returns-else-leading_of : goal.returns-else-leading_of
returns-else-leading_of c = ne_eqb _ _ c.if-leading_of.false ∙ match_apart _ _ _ c.leading_of.ensures c.leading_of-2.ensures c.if-leading_of.false
