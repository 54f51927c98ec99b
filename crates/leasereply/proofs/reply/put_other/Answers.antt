use Rattle.octets.proofs.WriteLaws.{more}
use Rattle.leasereply.specs.Reply.{other_reply}
use Rattle.leasereply.proofs.ReplyLaws.{other_parts}
use Rattle.leasereply.proofs.reply.put_other.Goals as goal

pub returns : goal.returns
unfolding other_reply
returns c = rw (other_parts _ _ _ _) (more c.put_head-a.ensures c.put_octet.ensures)
