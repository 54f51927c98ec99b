use Rattle.std.proofs.Common.{sym, ◌∙◌}
use Rattle.request.proofs.DecideLaws.{a_there, a_full, a_new}
use Rattle.request.proofs.decide.Update.add_name.Goals as goal

pub returns-then-is_some : goal.returns-then-is_some
returns-then-is_some c = a_there c.args.self.now c.args.s (sym c.is_some.ensures ∙ c.if-is_some.true)

pub returns-in_default : goal.returns-in_default
returns-in_default c = a_full c.args.self.now c.args.s (sym c.is_some.ensures ∙ c.if-is_some.false) c.in_default.is

pub returns : goal.returns
returns c = a_new c.args.self.now c.args.s (sym c.is_some.ensures ∙ c.if-is_some.false) _ _ c.in-Some.is c.fresh.ensures
