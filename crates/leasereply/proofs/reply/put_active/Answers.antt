use Rattle.std.proofs.Common.{◌≡◌, length, sym, rules, arith}
use lib.Seq.{take_all}
use Rattle.octets.proofs.WriteLaws.{more, then}
use Rattle.leasereply.specs.Reply.{active_reply}
use Rattle.leasereply.proofs.ReplyLaws.{active_parts}
use Rattle.leasereply.proofs.reply.put_active.Goals as goal

pub returns : goal.returns
unfolding active_reply
returns c =
    let x = c.args.told.now.lease in
    let k : length x.chaddr ≡ 16 = search rules in
    rw (active_parts _ _ _ _ _ _, take_all 16 x.chaddr (omega (arith, k)), sym c.read.ensures, ← c.u32_octets.ensures)
    (more (then (then c.put_head-a.ensures c.put_lease-b.ensures) c.put_listed-c.ensures) c.put_octet.ensures)
