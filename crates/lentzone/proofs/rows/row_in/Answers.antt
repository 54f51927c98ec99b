use Rattle.std.proofs.Common.{sym}
use Rattle.lentzone.proofs.PlaceLaws.{row_no_zone, row_no_place, row_read}
use Rattle.lentzone.proofs.rows.row_in.Goals as goal

pub returns-in_err-rows : goal.returns-in_err-rows
returns-in_err-rows c = rw c.from_residual.ensures (sym (row_no_zone _ _ c.in_err-rows.ensures))

pub returns-then-place-ge64 : goal.returns-then-place-ge64
returns-then-place-ge64 c = sym (row_no_place _ _ c.if-place-ge64.true)

pub returns : goal.returns
returns c = let e = c.in_ok-rows.ensures in row_read _ _ _ _ e.0 e.2 c.if-place-ge64.false
