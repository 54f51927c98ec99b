use Rattle.std.proofs.Common.{◌≡◌, length}
use Rattle.zone.specs.Survey.{repeated}
use Rattle.zone.proofs.fingerprint.few_repeat.Given as goal

abbrev pub invariant-loop-x : goal.invariant-loop-x
invariant-loop-x l = repeated l.p ≡ repeated l.rest

abbrev pub decreases-loop-x : goal.decreases-loop-x
decreases-loop-x l = length l.rest
