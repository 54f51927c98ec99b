use Rattle.std.proofs.Common.{rules, Err, sym, ap, ◌∙◌}
use Rattle.std.proofs.lemmas.Result.{err_from_is_err_and}
use Rattle.leasequery.specs.Stages.{asked_or_refused}
use Rattle.leasequery.proofs.StageLaws.{asked_read}
use Rattle.leasequery.proofs.ask.ask.Goals as goal

pub returns-in_err-read : goal.returns-in_err-read
returns-in_err-read c =
    let r = err_from_is_err_and c.from_residual.result c.from_residual.ensures.1 in
    ap (asked_or_refused c.args.p.now) (r.1 ∙ ap Err r.2)
    ∙ asked_read c.args.clock c.args.table.ok c.args.p.now c.args.room c.in_err-read.ensures (sym c.if-not-is_moment.ensures) (search rules) c.if-room-lt-ROOM.false

pub returns : goal.returns
returns c = asked_read c.args.clock c.args.table.ok c.args.p.now c.args.room c.in_ok-read.ensures (sym c.if-not-is_moment.ensures) (search rules) c.if-room-lt-ROOM.false
