use Rattle.std.proofs.Common.{◌≡◌, ℕ, ◌≤◌, get_or, take, ap, ◌∙◌, arith, rules}
use Rattle.lentzone.specs.Decode.{part}
use Rattle.lentzone.proofs.DecodeLaws.{name_part}
use Rattle.lentzone.proofs.look.name_in.Goals as goal

pub returns : goal.returns
returns c =
    let e = c.args.e.now in
    let q : c.from-end.result ≡ get_or e 256 0 = search rules in
    let h : c.from-end.result ≤ 255 = omega (arith, q) in
    name_part e c.from-end.result h ∙ ap (λ (n : ℕ). take n (part 1 255 e)) q
