use Rattle.octets.proofs.WriteLaws.{then}
use Rattle.leasereply.proofs.reply.put_head.Goals as goal

pub returns : goal.returns
returns c = then (then c.put-a.ensures c.put_kind-b.ensures) c.put_number.ensures
