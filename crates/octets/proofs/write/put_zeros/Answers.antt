use Rattle.std.proofs.Common.{ℕ, ◌≡◌, ◌∙◌, ◌-◌, ap, arith, length, take, drop, length-drop, length-take-le}
use Rattle.std.proofs.Math.ListN.{replicate, length-replicate}
use Rattle.octets.proofs.WriteLaws.{zeros_out, laid_over}
use Rattle.octets.proofs.write.put_zeros.Goals as goal

pub returns-in_default : goal.returns-in_default
returns-in_default c = zeros_out c.args.n c.in_default.ensures

pub returns : goal.returns
returns c =
    let n = c.args.n in
    let rest = drop c.args.at c.args.buf.now in
    let l : length {A = ℕ} (replicate n 0) ≡ n = length-replicate n 0 in
    let k : length (take (c.in-Some.end - c.args.at) rest) ≡ n = length-take-le _ rest (omega (arith, length-drop c.args.at c.args.buf.now)) ∙ omega arith in
    laid_over _ _ _ _ _ (c.fill.ensures.after (λ y p. p) ∙ ap (λ m. replicate m 0) k) (omega arith) (omega arith)
