use Rattle.std.proofs.Common.{ap, ◌∙◌}
use Rattle.zone.specs.Survey.{fingerprint_words}
use Rattle.zone.proofs.FingerprintLaws.{fingerprint_key}
use Rattle.zone.proofs.name.fingerprint_of.Goals as goal

pub returns : goal.returns
returns c = c.fingerprint.ensures ∙ ap fingerprint_words c.octets.ensures ∙ fingerprint_key _
