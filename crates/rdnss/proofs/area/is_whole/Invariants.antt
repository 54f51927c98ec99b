use Rattle.std.proofs.Common.{◌≡◌, length}
use Rattle.rdnss.specs.Area.{is_whole}
use Rattle.rdnss.proofs.area.is_whole.Given as goal

abbrev pub invariant-loop-behind : goal.invariant-loop-behind
invariant-loop-behind l = is_whole 0 l.area ≡ is_whole 0 l.rest

abbrev pub decreases-loop-behind : goal.decreases-loop-behind
decreases-loop-behind l = length l.rest
