use Rattle.std.proofs.Common.{arith, length-set}
use Rattle.text.proofs.WritingLaws.{spelling_turns, spelling_ends}
use Rattle.text.proofs.decimal.digits_of.Goals as goal

pub loop-rest-preserved : goal.loop-rest-preserved
loop-rest-preserved c =
    let l = c.loop-rest in
    spelling_turns c.args.v l.octets l.from l.rest _ l.invariant c.loop-rest-test.true c.character.ensures

pub returns : goal.returns
returns c =
    let l = c.loop-rest in
    record {
      room = simp length-set l.invariant.size;
      within = omega (arith, l.invariant.within);
      digits = spelling_ends c.args.v l.octets l.from l.rest _ l.invariant c.loop-rest-test.false c.character-2.ensures;
    }
