use Rattle.std.proofs.Common.{◌≡◌, ◌-◌, ◌*◌}
use Rattle.zone.specs.Survey.{fingerprint_from, fingerprint_words}
use Rattle.zone.proofs.fingerprint.fingerprint.Given as goal

abbrev pub invariant-loop-i : goal.invariant-loop-i
invariant-loop-i l = fingerprint_words l.s ≡ fingerprint_from (l.words - l.i) (8 * l.i) l.sum l.sums l.s
