use Rattle.std.proofs.Common.{arith, ◌≡◌, ◌∙◌, eqb, ◌||◌, false}
use Rattle.std.proofs.lemmas.Grind.{common_steps}
use Rattle.std.specs.List.{fold}
use Rattle.zone.proofs.FingerprintLaws.{among_fold}
use Rattle.zone.proofs.fingerprint.is_among.Goals as goal

pub returns : goal.returns
returns c =
    let e : c.fold.result ≡ fold (λ hit y. hit || eqb y c.args.x) false c.args.p.now = grind (arith, common_steps) in
    e ∙ among_fold c.args.x false c.args.p.now
