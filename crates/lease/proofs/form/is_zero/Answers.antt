use Rattle.std.proofs.Common.{arith, ◌≡◌, ◌∙◌, eqb, ◌&&◌, true}
use Rattle.std.proofs.lemmas.Grind.{common_steps}
use Rattle.std.specs.List.{fold}
use Rattle.lease.proofs.FormLaws.{zero_fold}
use Rattle.lease.proofs.form.is_zero.Goals as goal

pub returns : goal.returns
returns c =
    let e : c.fold.result ≡ fold (λ zero x. zero && eqb x 0) true c.args.s.now = grind (arith, common_steps) in
    e ∙ zero_fold true c.args.s.now
