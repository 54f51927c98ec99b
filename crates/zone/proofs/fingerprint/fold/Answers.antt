use Rattle.std.proofs.Common.{refl}
use Rattle.zone.specs.Survey.{folded}
use Rattle.zone.proofs.fingerprint.fold.Goals as goal

pub returns : goal.returns
unfolding folded
returns c = refl
