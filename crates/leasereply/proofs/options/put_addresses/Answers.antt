use Rattle.std.proofs.Common.{arith}
use Rattle.octets.proofs.WriteLaws.{nothing}
use Rattle.leasereply.specs.Reply.{flat}
use Rattle.leasereply.proofs.ReplyLaws.{flat_more}
use Rattle.leasereply.proofs.options.put_addresses.Goals as goal

pub loop-rank-init : goal.loop-rank-init
unfolding flat
loop-rank-init c = nothing

pub loop-rank-preserved : goal.loop-rank-preserved
loop-rank-preserved c =
    let l = c.loop-rank in
    flat_more c.args.ranks.now l.rank-index (omega arith) l.invariant (rw c.low_32.ensures at c.put_u32-a.ensures)
