use Rattle.std.proofs.Common.{sym, ◌∙◌}
use Rattle.dname.proofs.KeyLaws.{same_octets_name}
use Rattle.dname.proofs.same_name.Goals as goal

pub returns-then-same : goal.returns-then-same
returns-then-same c = c.if-same.true ∙ sym (same_octets_name c.args.a.now c.args.b.now (sym c.same.ensures ∙ c.if-same.true))
