use Rattle.std.proofs.Common.{refl, sym, arith, ap, ◌∙◌}
use Rattle.std.proofs.Math.ListN.{length-set}
use Rattle.std.proofs.Math.Seq.{take_all}
use Rattle.octets.specs.Write.{put}
use Rattle.octets.proofs.WriteLaws.{put_nil, copy_more, laid_in, laid_out}
use Rattle.octets.proofs.write.put_octets.Goals as goal

pub returns-in_default : goal.returns-in_default
returns-in_default c = laid_out _ (omega arith)

pub loop-i-init : goal.loop-i-init
loop-i-init c = (omega arith, refl, sym (put_nil c.args.buf.now c.args.at))

pub loop-i-preserved : goal.loop-i-preserved
loop-i-preserved c =
    let l = c.loop-i in
    (omega arith, simp length-set l.invariant.1, copy_more c.args.buf.now c.args.src.now l.buf c.args.at l.i (omega arith) (omega arith) l.invariant.2)

pub returns : goal.returns
returns c =
    let s = c.args in
    laid_in (record {
      list = c.loop-i.invariant.2 ∙ ap (put s.buf.now s.at) (take_all c.loop-i.i s.src.now (omega arith));
      next = c.in-Some.ensures.0;
      fits = omega arith;
    })
