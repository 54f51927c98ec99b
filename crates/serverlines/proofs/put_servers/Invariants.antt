use Rattle.std.proofs.Common.{◌*◌, ◌≡◌, length, take}
use Rattle.serverlines.specs.Lines.{server_lines}
use Rattle.serverlines.specs.Inner.{PutWithin}
use Rattle.serverlines.proofs.put_servers.Given as goal

abbrev pub invariant-loop-e : goal.invariant-loop-e
invariant-loop-e l =
    record {
      same : length l.buf ≡ length l.initial.buf;
      put : PutWithin (54 * l.e-index) l.initial.buf l.at (server_lines (take l.e-index l.entries)) l.buf l.end;
    }
