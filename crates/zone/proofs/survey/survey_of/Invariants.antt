use Rattle.dname.specs.Name.{name_of}
use Rattle.zone.proofs.WalkLaws.{Walk}
use Rattle.zone.proofs.survey.survey_of.Given as goal

abbrev pub invariant-loop-i : goal.invariant-loop-i
invariant-loop-i l = Walk l.places (name_of l.n) l.fingerprints l.used l.inorder l.found l.free l.i
