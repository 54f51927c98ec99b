use Rattle.std.proofs.Common.{◌≡◌, sym}
use Rattle.clock.specs.Clock.{seconds_left, seconds_since}
use Rattle.octets.proofs.WriteLaws.{then}
use Rattle.leasereply.specs.Reply.{about_lease}
use Rattle.leasereply.proofs.options.put_lease.Goals as goal

pub returns : goal.returns
unfolding about_lease
returns c =
    let l : c.seconds_left-left.result ≡ seconds_left c.args.x.now.expiry c.args.clock = c.seconds_left-left.ensures in
    let n : c.seconds_since-since.result ≡ seconds_since c.args.x.now.last c.args.clock = c.seconds_since-since.ensures in
    rw (sym l, sym n) (then (then (then c.put_time-a.ensures c.put_held-b.ensures) c.put_held-c.ensures) c.put_time.ensures)
