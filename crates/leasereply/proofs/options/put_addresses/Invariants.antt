use Rattle.std.proofs.Common.{take}
use Rattle.octets.specs.Write.{WroteIf}
use Rattle.leasereply.specs.Reply.{flat, addresses_of}
use Rattle.leasereply.proofs.options.put_addresses.Given as goal

-- The addresses of the ranks passed are written.
abbrev pub invariant-loop-rank : goal.invariant-loop-rank
invariant-loop-rank l = WroteIf l.fn.buf l.fn.at (flat (addresses_of (take l.rank-index l.ranks))) l.buf l.a
