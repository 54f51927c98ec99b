use Rattle.std.proofs.Common.{length}
use Rattle.addresses.proofs.ChangeLaws.{Removing}
use Rattle.addresses.proofs.set.without.Given as goal

abbrev pub invariant-loop-b : goal.invariant-loop-b
invariant-loop-b g l = Removing g.S.Addr.Addr.octets_of (g.S.Addr.Addr.octets_of l.a) (g.S.Set.counted l.s) (length l.b-items) (g.S.Set.counted l.t).items l.b-index l.n
