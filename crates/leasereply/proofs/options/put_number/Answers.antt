use Rattle.octets.proofs.NumberLaws.{length_big_endian}
use Rattle.octets.proofs.WriteLaws.{written, more}
use Rattle.leasereply.proofs.options.put_number.Goals as goal

pub returns : goal.returns
returns c = rw (length_big_endian 4 c.args.v) (more (written c.put_octets-a.ensures) c.put_u32.ensures)
