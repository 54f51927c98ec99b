use Rattle.std.proofs.Common.{arith, ◌≡◌, ◌*◌, ap, sym, ◌∙◌, refl, length, length-set}
use Rattle.std.proofs.Math.Seq.{take_all}
use Rattle.octets.specs.Write.{put}
use Rattle.octets.proofs.WriteLaws.{put_nil}
use Rattle.text.specs.Text.{hex}
use Rattle.text.proofs.TextLaws.{hex_nothing, two_an_octet}
use Rattle.text.proofs.WritingLaws.{hex_turns}
use Rattle.text.proofs.hex.spell.Goals as goal

pub loop-i-init : goal.loop-i-init
loop-i-init c =
    let s = c.args in
    record {
      within = omega arith;
      size = refl;
      spelled = sym (put_nil s.buf.now s.at) ∙ ap (put s.buf.now s.at) (sym hex_nothing);
    }

pub loop-i-preserved : goal.loop-i-preserved
loop-i-preserved c =
    let l = c.loop-i in
    let s = c.args in
    record {
      within = omega arith;
      size = simp length-set l.invariant.size;
      spelled = hex_turns s.buf.now s.src.now l.buf s.at l.i _ _ c.requires (omega arith) l.invariant.spelled c.character.ensures c.character-in-loop-i.ensures;
    }

pub returns : goal.returns
returns c =
    let s = c.args in
    let e : length (hex s.src.now) ≡ 2 * length s.src.now = two_an_octet s.src.now in
    record {
      list = c.loop-i.invariant.spelled ∙ ap (λ t. put s.buf.now s.at (hex t)) (take_all c.loop-i.i s.src.now (omega arith));
      next = omega arith;
      fits = c.requires;
    }
