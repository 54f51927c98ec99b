use Rattle.std.proofs.Common.{◌≡◌, length, rules, arith}
use Rattle.octets.proofs.WriteLaws.{written, more}
use Rattle.text.specs.Text.{ascii}
use Rattle.serverlines.proofs.LineLaws.{word_short}
use Rattle.serverlines.proofs.put_count.Goals as goal

pub returns : goal.returns
unfolding ascii
returns c =
    let e : length c.args.word.now ≡ 8 = search rules in
    record {
      wrote = more (more (written c.put_octets-number.ensures) c.put_decimal-line_end.ensures) c.put_octet.ensures;
      short = word_short c.args.word.now c.args.n e (omega arith);
    }
