use Rattle.octets.proofs.WriteLaws.{then}
use Rattle.leasepacket.specs.Layout.{fixed_fields}
use Rattle.leasereply.specs.Reply.{fixed}
use Rattle.leasereply.proofs.fixed.Fixed.put.Goals as goal

pub returns : goal.returns
unfolding fixed fixed_fields
returns c = then c.put_front-a.ensures c.put_back.ensures
