use Rattle.std.proofs.Common.{◌≡◌, length, map}
use Rattle.octets.specs.Count.{distinct}
use Rattle.addresses.proofs.set.is_distinct.Given as goal

abbrev pub invariant-loop-a : goal.invariant-loop-a
invariant-loop-a g l = distinct (map g.A.Addr.octets_of l.l) ≡ distinct (map g.A.Addr.octets_of l.rest)

abbrev pub decreases-loop-a : goal.decreases-loop-a
decreases-loop-a g l = length l.rest
