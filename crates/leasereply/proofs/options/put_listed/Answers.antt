use Rattle.std.proofs.Common.{arith}
use borrow.Author.Tests.{lt-ltb, le-ltb}
use Rattle.octets.proofs.WriteLaws.{nothing, written, then}
use Rattle.leasepacket.specs.Layout.{encoded}
use Rattle.leasereply.specs.Reply.{flat}
use Rattle.leasereply.proofs.ReplyLaws.{some_encoded, addresses_length}
use Rattle.leasereply.proofs.options.put_listed.Goals as goal
use Rattle.leasereply.proofs.options.put_listed.Goals.{then-n-lt-FEWEST-via-then-n-lt-FEWEST, then-n-lt-FEWEST-via-else-n-lt-FEWEST+then-n-gt63}

pub returns-then-n-lt-FEWEST : goal.returns-then-n-lt-FEWEST
unfolding flat encoded
returns-then-n-lt-FEWEST c =
    elim c.then-n-lt-FEWEST.branch [
      | then-n-lt-FEWEST-via-then-n-lt-FEWEST w ↦ rw (lt-ltb c.args.n 2 w.if-n-lt-FEWEST.true) nothing
      | then-n-lt-FEWEST-via-else-n-lt-FEWEST+then-n-gt63 w ↦ rw (le-ltb c.args.n 2 w.if-n-lt-FEWEST.false, lt-ltb 63 c.args.n w.if-n-gt63.true) nothing
    ]

pub returns : goal.returns
returns c =
    rw (le-ltb c.args.n 2 c.if-n-lt-FEWEST.false, le-ltb 63 c.args.n c.if-n-gt63.false)
    (some_encoded (addresses_length c.args.ranks.now c.args.n (omega arith)) (omega arith) (then (written c.put_octets-a.ensures) c.put_addresses.ensures))
