use Rattle.lentzone.specs.Decode.{part}
use Rattle.lentzone.proofs.decode.set4_in.Goals as goal

pub returns : goal.returns
unfolding part
returns c = rw (c.addr4_in-d.ensures, c.addr4_in-c.ensures, c.addr4_in-b.ensures, c.addr4_in-a.ensures)
