use Rattle.std.proofs.Common.{ℕ, ◌≡◌, ◌∙◌, ◌+◌, ap, get_or, arith}
use Rattle.std.proofs.Math.Seq.{get_or-drop}
use Rattle.octets.specs.Number.{number_at}
use Rattle.octets.proofs.number.u32_at.Goals as goal

pub returns : goal.returns
unfolding number_at
returns c =
    let s = c.args.s.now in
    let at = c.args.at in
    let r = c.from_place-rest in
    let o : (k : ℕ) → get_or r.result.now k 0 ≡ get_or s (at + k) 0 = λ k. ap (λ t. get_or t k 0) r.ensures ∙ get_or-drop at s k 0 in
    omega (arith, c.from_be_bytes.ensures, c.octet_at.ensures, c.octet_at-2.ensures, c.octet_at-3.ensures, c.octet_at-4.ensures, o 0, o 1, o 2, o 3)
