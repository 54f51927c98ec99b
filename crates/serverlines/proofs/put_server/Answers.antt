use Rattle.std.proofs.Common.{rules, arith}
use Rattle.octets.proofs.WriteLaws.{written, more, then}
use Rattle.text.specs.Text.{ascii}
use Rattle.serverlines.specs.Lines.{server_line}
use Rattle.serverlines.proofs.LineLaws.{server_short, twenty}
use Rattle.serverlines.proofs.put_server.Goals as goal

pub returns : goal.returns
unfolding ascii server_line
returns c =
    let p = rw c.expires.ensures at c.put_decimal-end.ensures in
    record {
      wrote = more (then (more (written c.put_hex-blank.ensures) c.put_octet-seconds.ensures) (written p)) c.put_octet.ensures;
      short = server_short _ (search rules) (rw c.expires.ensures at (twenty c.expires.result.0 (omega arith)));
    }
