use Rattle.std.proofs.Common.{refl, sym}
use lib.Seq.{length-take-le}
use Rattle.serverlines.proofs.LineLaws.{front}
use Rattle.serverlines.proofs.put_answer.Goals as goal

pub slice_bounds-put_octets-end : goal.slice_bounds-put_octets-end
slice_bounds-put_octets-end c = sym (length-take-le _ _ (front refl c.put_lines-n.ensures).within)

pub returns : goal.returns
returns c = rw (front refl c.put_lines-n.ensures).text at c.put_octets.ensures
