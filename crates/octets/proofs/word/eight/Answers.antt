use Rattle.std.proofs.Common.{arith}
use Rattle.octets.specs.Word.{value}
use Rattle.octets.proofs.word.eight.Goals as goal

pub returns : goal.returns
unfolding value
returns c = omega (arith, c.from_le_bytes.ensures)
