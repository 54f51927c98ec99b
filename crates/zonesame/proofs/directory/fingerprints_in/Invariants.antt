use Rattle.zonesame.specs.Inner.{Fingerprints}
use Rattle.zonesame.proofs.directory.fingerprints_in.Given as goal

abbrev pub invariant-loop-i : goal.invariant-loop-i
invariant-loop-i l = Fingerprints l.z l.fingerprints l.i
