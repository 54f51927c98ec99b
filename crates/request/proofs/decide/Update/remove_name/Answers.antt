use Rattle.std.proofs.Common.{refl, sym, ◌∙◌}
use Rattle.request.proofs.DecideLaws.{name_absent, name_other, name_kept, name_gone}
use Rattle.request.proofs.decide.Update.remove_name.Goals as goal

pub returns-in_default : goal.returns-in_default
returns-in_default c = name_absent c.args.self.now c.args.found c.in_default.is

pub returns-then-not-is_held : goal.returns-then-not-is_held
returns-then-not-is_held c =
    name_other c.args.self.now _ c.args.found c.in-Some.is (sym c.is_held.ensures ∙ c.if-not-is_held.true)

pub returns-then-not-is_empty : goal.returns-then-not-is_empty
returns-then-not-is_empty c =
    name_kept c.args.self.now _ c.args.found c.in-Some.is (sym c.is_held.ensures ∙ c.if-not-is_held.false) (λ n. sym (c.is_empty.ensures n) ∙ c.if-not-is_empty.true)

pub returns : goal.returns
returns c =
    name_gone c.args.self.now _ c.args.found c.in-Some.is _ (sym c.is_held.ensures ∙ c.if-not-is_held.false) (λ n. sym (c.is_empty.ensures n) ∙ c.if-not-is_empty.false) refl
