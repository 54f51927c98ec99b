use Rattle.std.proofs.Common.{sym, subst}
use Rattle.std.proofs.lemmas.Result.{err_from_is_err_and}
use Rattle.leasepacket.specs.Places.{Tells}
use Rattle.leasepacket.proofs.OccurrenceLaws.{kind_fault, id_fault, tells}
use Rattle.leasepacket.proofs.options.read_all.Goals as goal

pub returns-in_err-kind : goal.returns-in_err-kind
returns-in_err-kind c =
    let r = err_from_is_err_and c.from_residual.result c.from_residual.ensures.1 in
    subst (Tells c.args.s.now) (sym r.1) (kind_fault _ _ c.in_err-kind.ensures)

pub returns-in_err-id : goal.returns-in_err-id
returns-in_err-id c =
    let r = err_from_is_err_and c.from_residual-in_err-id.result c.from_residual-in_err-id.ensures.1 in
    subst (Tells c.args.s.now) (sym r.1) (id_fault _ _ c.in_err-id.ensures)

pub returns : goal.returns
returns c = tells _ _ _ c.in_ok-kind.ensures c.in_ok-id.ensures
