use Rattle.std.proofs.Common.{◌≡◌, length, take, refl, arith}
use lib.Seq.{take_all}
use Rattle.serverlines.proofs.LineLaws.{servers_begin, servers_turn}
use Rattle.serverlines.proofs.put_servers.Goals as goal

pub loop-e-init : goal.loop-e-init
loop-e-init c = record { same = refl; put = servers_begin _ _ c.args.entries.now }

pub loop-e-preserved : goal.loop-e-preserved
loop-e-preserved c =
    let l = c.loop-e in
    record {
      same = omega arith;
      put = servers_turn _ l.e-index _ c.loop-e-test.true l.invariant.put c.put_server-end.ensures;
    }

pub returns : goal.returns
returns c =
    let l = c.args.entries.now in
    let i : c.loop-e.e-index ≡ length l = omega arith in
    let t : take (length l) l ≡ l = take_all (length l) l (omega arith) in
    rw (i, t) at c.loop-e.invariant.put
