use Rattle.octets.proofs.WriteLaws.{written, more}
use Rattle.leasereply.proofs.fixed.Fixed.put_back.Goals as goal

pub returns : goal.returns
returns c = more (more (more (more (more (written c.put_octets-a.ensures) c.put_zeros-b.ensures) c.put_octets-c.ensures) c.put_octets-d.ensures) c.put_zeros-e.ensures) c.put_octets.ensures
