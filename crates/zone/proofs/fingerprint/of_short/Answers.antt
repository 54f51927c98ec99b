use Rattle.std.proofs.Common.{sym, ap, ◌∙◌}
use Rattle.zone.specs.Survey.{folded}
use Rattle.zone.proofs.FingerprintLaws.{fingerprint_least, fingerprint_short}
use Rattle.zone.proofs.fingerprint.of_short.Goals as goal

pub returns-then-s-lt4 : goal.returns-then-s-lt4
returns-then-s-lt4 c = sym (fingerprint_least _ c.if-s-lt4.true)

pub returns : goal.returns
returns c = c.fold.ensures ∙ ap folded c.ends.ensures ∙ sym (fingerprint_short c.args.s.now c.if-s-lt4.false c.requires)
