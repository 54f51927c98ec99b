use Rattle.std.proofs.Common.{◌≡◌, ℕ, ◌*◌, ◌/◌, ◌%◌, ap, arith, rules}
use Rattle.zone.specs.Survey.{mark_of}
use Rattle.zone.proofs.fingerprint.mark.Goals as goal

pub returns : goal.returns
unfolding mark_of
returns c =
    let q : c.from.result ≡ c.args.x = search rules in
    (ap (λ (y : ℕ). y * 2654435769 / 4194304 % 1024) q, omega arith)
