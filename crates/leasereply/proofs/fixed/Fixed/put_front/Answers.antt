use Rattle.octets.proofs.WriteLaws.{written, more}
use Rattle.leasereply.proofs.fixed.Fixed.put_front.Goals as goal

pub returns : goal.returns
returns c = more (more (more (written c.put_octets-a.ensures) c.put_octets-b.ensures) c.put_zeros-c.ensures) c.put_octets.ensures
