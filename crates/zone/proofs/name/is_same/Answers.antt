use Rattle.std.proofs.Common.{sym, ◌∙◌, ne_eqb}
use Rattle.dname.specs.Name.{name_of}
use Rattle.zone.proofs.FingerprintLaws.{fingerprint_differ}
use Rattle.zone.proofs.name.is_same.Goals as goal

pub returns-else-own-fingerprint : goal.returns-else-own-fingerprint
returns-else-own-fingerprint c =
    ne_eqb _ _ c.if-own-fingerprint.false
    ∙ sym (fingerprint_differ (name_of c.args.a.now) (name_of c.args.b.now) (λ e. c.if-own-fingerprint.false (c.requires.0 ∙ e ∙ sym c.requires.1)))
