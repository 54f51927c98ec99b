use Rattle.lentzone.specs.Decode.{part}
use Rattle.lentzone.proofs.decode.records_in.Goals as goal

pub returns : goal.returns
unfolding part
returns c = rw (c.array_in.ensures, c.set4_in.ensures, c.set6_in.ensures)
