use Rattle.leasereply.specs.Reply.{other_reply}
use Rattle.leasereply.proofs.ReplyLaws.{fits_not, fits, other_short}
use Rattle.leasereply.proofs.reply.write_other.Goals as goal

pub returns-in_default : goal.returns-in_default
returns-in_default c = fits_not c.args.query.now c.args.buf.now (other_reply c.args.kind c.args.server c.args.query.now) c.in_default.ensures

pub returns : goal.returns
returns c =
    let s = c.args in
    let k = c.in-Some.ensures in
    fits s.query.now s.buf.now (other_reply s.kind s.server s.query.now) _ _ k.0 (other_short s.kind s.server s.query.now) (rw k.1 at c.put_other.ensures)
