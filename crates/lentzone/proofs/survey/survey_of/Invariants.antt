use Rattle.std.proofs.Common.{ℕ, map}
use Rattle.std.specs.Prelude.{Option}
use Rattle.zone.proofs.WalkLaws.{Walk}
use Rattle.lentzone.specs.Decode.{entry_in}
use Rattle.lentzone.proofs.survey.survey_of.Given as goal

-- whichever free place is the last one before i
abbrev pub invariant-loop-i : goal.invariant-loop-i
invariant-loop-i l = (free : Option ℕ) × Walk (map entry_in l.places) l.n l.fingerprints l.used l.inorder l.found free l.i
