use Rattle.std.proofs.Common.{sym, ◌∙◌}
use Rattle.std.proofs.Math.ListN.{length-replicate}
use Rattle.lentzone.proofs.CopyLaws.{copied}
use Rattle.lentzone.proofs.decode.array_in.Goals as goal

pub returns : goal.returns
returns g c = copied (length-replicate _ _ ∙ sym c.requires) c.put_octets.ensures
