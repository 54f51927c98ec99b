use Rattle.lentzone.specs.Decode.{part}
use Rattle.lentzone.proofs.decode.set6_in.Goals as goal

pub returns : goal.returns
unfolding part
returns c = rw (c.addr6_in-d.ensures, c.addr6_in-c.ensures, c.addr6_in-b.ensures, c.addr6_in-a.ensures)
