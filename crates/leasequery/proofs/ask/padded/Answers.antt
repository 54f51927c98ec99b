use Rattle.std.proofs.Common.{length, le-ltb}
use Rattle.octets.specs.Write.{laid}
use Rattle.leasequery.specs.Stages.{padded}
use Rattle.leasequery.proofs.StageLaws.{padded_over}
use Rattle.leasequery.proofs.ask.padded.Goals as goal

pub returns-then-octets-le64 : goal.returns-then-octets-le64
unfolding padded laid
returns-then-octets-le64 c = rw (le-ltb 64 (length c.args.octets.now) c.if-octets-le64.true, c.copy_from_slice.ensures.after)

pub returns-else-octets-le64 : goal.returns-else-octets-le64
returns-else-octets-le64 c = padded_over c.args.octets.now c.if-octets-le64.false
