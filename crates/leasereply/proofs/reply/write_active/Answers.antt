use Rattle.std.proofs.Common.{rules, ◌≡◌, length}
use Rattle.leasereply.specs.Reply.{active_reply, listed}
use Rattle.leasereply.proofs.ReplyLaws.{fits_not, fits, active_fits}
use Rattle.leasereply.proofs.reply.write_active.Goals as goal

pub returns-in_default : goal.returns-in_default
returns-in_default c =
    let t = c.args.told in
    fits_not c.args.query.now c.args.buf.now (active_reply t.clock c.args.server c.args.query.now t.lease (listed t.n t.ranks.now)) c.in_default.ensures

pub returns : goal.returns
returns c =
    let s = c.args in
    let t = s.told in
    let x = t.lease in
    let i : length x.id ≡ 64 = search rules in
    let r : length x.relay ≡ 64 = search rules in
    let k = c.in-Some.ensures in
    fits s.query.now s.buf.now (active_reply t.clock s.server s.query.now x (listed t.n t.ranks.now)) _ _ k.0
    (active_fits t.clock s.server s.query.now x t.n t.ranks.now i r) (rw k.1 at c.put_active.ensures)
