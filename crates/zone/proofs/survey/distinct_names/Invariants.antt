use Rattle.std.proofs.Common.{◌≡◌, length}
use Rattle.octets.specs.Count.{distinct}
use Rattle.zone.specs.Meaning.{keys}
use Rattle.zone.proofs.survey.distinct_names.Given as goal

abbrev pub invariant-loop-e : goal.invariant-loop-e
invariant-loop-e l = distinct (keys l.places) ≡ distinct (keys l.rest)

abbrev pub decreases-loop-e : goal.decreases-loop-e
decreases-loop-e l = length l.rest
