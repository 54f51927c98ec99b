use Rattle.std.proofs.Common.{◌∙◌, sym, ap}
use Rattle.std.proofs.lemmas.Result.{err_from_is_err_and}
use Rattle.dname.specs.declared.Shape.{Shape}
use Rattle.fqdn.specs.Answer.{by_suffix}
use Rattle.fqdn.proofs.AnswerLaws.{room_short, room_enough, value_none, decided, by_sent, by_none, suffix_refused}
use Rattle.fqdn.proofs.answer.decide.Goals as goal

pub returns-then-room-lt256 : goal.returns-then-room-lt256
returns-then-room-lt256 c = sym (room_short _ _ _ _ _ c.if-room-lt256.true)

pub returns-in_default : goal.returns-in_default
returns-in_default c = sym (room_enough _ _ _ _ _ c.if-room-lt256.false ∙ value_none _ _ _ _ c.in_default.ensures.cases)

pub returns-in_err-flags : goal.returns-in_err-flags
returns-in_err-flags c =
    let a = c.args in
    let d = decided a.value.now a.suffix.now a.honour_s a.honour_n a.room _ _ c.if-room-lt256.false c.in-Some.ensures.cases.0 in
    let p = err_from_is_err_and c.from_residual.result c.from_residual.ensures.1 in
    rw (p.1, p.2) (sym (d ∙ by_none _ _ _ _ c.in_err-flags.ensures))

pub returns-in-Full : goal.returns-in-Full
unfolding by_suffix
returns-in-Full c =
    let a = c.args in
    let name = c.in-Some.name.now in
    let flags = c.in_ok-flags.flags in
    let d = decided a.value.now a.suffix.now a.honour_s a.honour_n a.room _ _ c.if-room-lt256.false c.in-Some.ensures.cases.0 in
    c.by_name.ensures ∙ sym (d ∙ by_sent _ _ _ _ c.in_ok-flags.ensures ∙ ap (λ (t : Shape). by_suffix t flags name a.suffix.now) (sym c.in-Full.ensures))

pub returns-in_default-shape_of : goal.returns-in_default-shape_of
returns-in_default-shape_of c =
    let a = c.args in
    let d = decided a.value.now a.suffix.now a.honour_s a.honour_n a.room _ _ c.if-room-lt256.false c.in-Some.ensures.cases.0 in
    sym (d ∙ by_sent _ _ _ _ c.in_ok-flags.ensures ∙ suffix_refused _ _ _ _ (λ e. c.in_default-shape_of.not-Full (c.shape_of.ensures ∙ e)))
