use Rattle.octets.proofs.WriteLaws.{written, more}
use Rattle.deskquery.proofs.fixed.Fixed.put_back.Goals as goal

pub returns : goal.returns
returns c =
    rw (← c.chaddr.ensures)
    (more
    (more
    (more
    (more (more (written c.put_u32-a.ensures) c.put_zeros-b.ensures) c.put_u32-c.ensures)
    c.put_octets-d.ensures)
    c.put_zeros-e.ensures)
    c.put_octets.ensures)
