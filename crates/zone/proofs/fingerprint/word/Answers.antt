use Rattle.zone.specs.Survey.{word_at}
use Rattle.zone.proofs.fingerprint.word.Goals as goal

pub returns : goal.returns
unfolding word_at
returns c = c.eight_caseless.ensures
