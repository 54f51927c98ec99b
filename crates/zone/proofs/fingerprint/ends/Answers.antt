use Rattle.zone.specs.Survey.{ends_of}
use Rattle.zone.proofs.fingerprint.ends.Goals as goal

pub returns : goal.returns
unfolding ends_of
returns c = c.eight_caseless.ensures
