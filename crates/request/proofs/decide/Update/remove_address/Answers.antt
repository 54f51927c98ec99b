use Rattle.std.proofs.Common.{sym, ◌∙◌}
use Rattle.request.proofs.DecideLaws.{remove_absent, remove_other, remove_none, remove_own}
use Rattle.request.proofs.decide.Update.remove_address.Goals as goal

pub returns-in_default : goal.returns-in_default
returns-in_default c = remove_absent c.args.self.now c.args.found c.in_default.is

pub returns-then-not-is_held : goal.returns-then-not-is_held
returns-then-not-is_held c =
    remove_other c.args.self.now _ c.args.found c.in-Some.is (sym c.is_held.ensures ∙ c.if-not-is_held.true)

pub returns-then-not-has_address : goal.returns-then-not-has_address
returns-then-not-has_address c =
    let o = sym c.is_held.ensures ∙ c.if-not-is_held.false in
    remove_none c.args.self.now _ c.args.found c.in-Some.is o _ c.has_address.ensures c.if-not-has_address.true

pub returns : goal.returns
returns c =
    let o = sym c.is_held.ensures ∙ c.if-not-is_held.false in
    remove_own c.args.self.now _ c.args.found c.in-Some.is o _ c.has_address.ensures _ c.if-not-has_address.false c.part.ensures
