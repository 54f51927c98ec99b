use Rattle.std.proofs.Common.{◌≡◌, ◌≤◌, false, length, drop}
use Rattle.zone.specs.Survey.{repeated}
use Rattle.zone.proofs.FingerprintLaws.{Marked}
use Rattle.zone.proofs.fingerprint.many_repeat.Given as goal

abbrev pub invariant-loop-i : goal.invariant-loop-i
invariant-loop-i l = (l.i ≤ length l.p) × (repeated (drop l.i l.p) ≡ false) × Marked l.p l.seen l.i
