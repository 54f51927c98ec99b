use Rattle.std.proofs.Common.{arith, ℕ, ◌+◌, ◌-◌, ◌≤◌, ◌∙◌, ap, get_or, take, drop}
use Rattle.lentzone.proofs.DecodeLaws.{name_part}
use Rattle.zonesame.proofs.directory.name_at.Goals as goal

pub returns : goal.returns
returns c =
    let e = c.args.place.now in
    let h : get_or e 256 0 ≤ 255 = omega (arith, c.fits-place 256) in
    ap (λ (n : ℕ). take (1 + n - 1) (drop 1 e)) c.from.ensures ∙ name_part e _ h
