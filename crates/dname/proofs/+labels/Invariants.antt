use Rattle.std.proofs.Common.{length}
use Rattle.dname.proofs.+labels.Given as goal

abbrev pub decreases-labels : goal.decreases-labels
decreases-labels l = length l.rest.now
