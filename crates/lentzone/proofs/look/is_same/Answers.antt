use Rattle.std.proofs.Common.{sym, ◌∙◌, ne_eqb}
use Rattle.zone.proofs.FingerprintLaws.{fingerprint_differ, fingerprint_key}
use Rattle.lentzone.proofs.look.is_same.Goals as goal

pub returns-else-own-fingerprint : goal.returns-else-own-fingerprint
returns-else-own-fingerprint c =
    let a = c.args.a.now in
    let b = c.args.b.now in
    ne_eqb _ _ c.if-own-fingerprint.false
    ∙ sym (fingerprint_differ a b (λ e. c.if-own-fingerprint.false (c.requires.0 ∙ fingerprint_key a ∙ e ∙ sym (fingerprint_key b) ∙ sym c.requires.1)))
