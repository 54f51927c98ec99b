use Rattle.std.proofs.Common.{sym, ◌∙◌}
use Rattle.request.proofs.DecideLaws.{b_absent, b_other, b_added, b_full, b_done}
use Rattle.request.proofs.decide.Update.add_address.Goals as goal

pub returns-in_default : goal.returns-in_default
returns-in_default c = b_absent c.args.self.now c.args.found c.in_default.is c.args.policy

pub returns-then-not-is_held : goal.returns-then-not-is_held
returns-then-not-is_held c =
    b_other c.args.self.now _ c.args.found c.in-Some.is c.args.policy (sym c.is_held.ensures ∙ c.if-not-is_held.true)

pub returns-then-already_added : goal.returns-then-already_added
returns-then-already_added c =
    let o = sym c.is_held.ensures ∙ c.if-not-is_held.false in
    b_added c.args.self.now _ c.args.found c.in-Some.is c.args.policy o _ c.already_added.ensures c.if-already_added.true

pub returns-then-not-has_room : goal.returns-then-not-has_room
returns-then-not-has_room c =
    let o = sym c.is_held.ensures ∙ c.if-not-is_held.false in
    b_full c.args.self.now _ c.args.found c.in-Some.is c.args.policy o _ c.already_added.ensures _ c.leave-left.ensures _ c.has_room.ensures c.if-not-has_room.true

pub returns : goal.returns
returns c =
    let o = sym c.is_held.ensures ∙ c.if-not-is_held.false in
    b_done c.args.self.now _ c.args.found c.in-Some.is c.args.policy o _ c.already_added.ensures _ c.leave-left.ensures _ c.has_room.ensures _ c.if-already_added.false c.if-not-has_room.false c.join.ensures
