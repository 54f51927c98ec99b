use Rattle.std.proofs.Common.{refl}
use Rattle.job.specs.Meaning.{blank}
use Rattle.job.proofs.fresh.blank_job.Goals as goal

pub returns : goal.returns
unfolding blank
returns c = refl
