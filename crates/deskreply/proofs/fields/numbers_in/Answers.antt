use Rattle.std.proofs.Common.{◌≡◌, ◌/◌, sym, ap, ◌∙◌, length, replicate, arith}
use Rattle.std.proofs.Math.ListN.{set}
use Rattle.octets.proofs.WriteLaws.{put_nil, put_front}
use Rattle.deskreply.specs.Reading.{numbers}
use Rattle.deskreply.proofs.ReplyLaws.{numbers_more}
use Rattle.deskreply.proofs.fields.numbers_in.Goals as goal

pub loop-i-init : goal.loop-i-init
unfolding numbers
loop-i-init c = sym (put_nil (replicate 63 0) 0)

pub loop-i-preserved : goal.loop-i-preserved
loop-i-preserved c =
    ap (set c.loop-i.list c.loop-i.i) c.u32_at.ensures ∙ numbers_more (replicate 63 0) c.args.v.now c.loop-i.list c.loop-i.i (omega arith) c.loop-i.invariant

pub returns : goal.returns
returns c =
    let v = c.args.v.now in
    let e : c.loop-i.i ≡ length v / 4 = omega arith in
    c.loop-i.invariant ∙ rw e (put_front (replicate 63 0) (numbers (length v / 4) v))
