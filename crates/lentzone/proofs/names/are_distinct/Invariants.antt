use Rattle.std.proofs.Common.{◌≡◌, length, map}
use Rattle.octets.specs.Count.{distinct}
use Rattle.zone.specs.Meaning.{keys}
use Rattle.lentzone.specs.Decode.{entry_in}
use Rattle.lentzone.proofs.names.are_distinct.Given as goal

abbrev pub invariant-loop-e : goal.invariant-loop-e
invariant-loop-e l = distinct (keys (map entry_in l.places)) ≡ distinct (keys (map entry_in l.rest))

abbrev pub decreases-loop-e : goal.decreases-loop-e
decreases-loop-e l = length l.rest
