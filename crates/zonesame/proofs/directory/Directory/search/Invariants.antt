use Rattle.lentzone.proofs.NamedLaws.{Left}
use Rattle.zonesame.proofs.directory.Directory.search.Given as goal

abbrev pub invariant-loop-place : goal.invariant-loop-place
invariant-loop-place l = Left l.self.zone.now l.n l.place
