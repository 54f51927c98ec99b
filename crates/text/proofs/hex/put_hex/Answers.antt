use Rattle.std.proofs.Common.{arith, ◌≡◌, ◌*◌, length}
use Rattle.octets.proofs.WriteLaws.{laid_in, laid_out}
use Rattle.text.specs.Text.{hex}
use Rattle.text.proofs.TextLaws.{two_an_octet}
use Rattle.text.proofs.hex.put_hex.Goals as goal

pub returns-then-buf-at : goal.returns-then-buf-at
returns-then-buf-at c = laid_out _ (omega arith)

pub returns-then-buf-at-2 : goal.returns-then-buf-at-2
returns-then-buf-at-2 c =
    let s = c.args.src.now in
    let e : length (hex s) ≡ 2 * length s = two_an_octet s in
    laid_out (hex s) (omega arith)

pub returns : goal.returns
returns c = laid_in c.spell.ensures
