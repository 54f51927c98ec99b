use Rattle.std.proofs.Common.{◌∙◌, ap, sym, nat_eq, ne_eqb}
use Rattle.lease.proofs.ZeroLaws.{tail_broken, tail_of_6}
use Rattle.lease.proofs.form.is_zero_from_6.Goals as goal

pub returns-then-eight-eq0 : goal.returns-then-eight-eq0
returns-then-eight-eq0 c = ap (λ m. nat_eq m 0) c.four.ensures.0 ∙ tail_of_6 c.args.s.now c.told-s (sym c.eight.ensures ∙ c.if-eight-eq0.true)

pub returns-else-eight-eq0 : goal.returns-else-eight-eq0
returns-else-eight-eq0 c = ne_eqb _ _ c.if-eight-eq0.false ∙ sym (tail_broken c.args.s.now c.told-s (λ z. c.if-eight-eq0.false (c.eight.ensures ∙ z)))
