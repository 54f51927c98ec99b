use Rattle.std.proofs.Common.{ℕ, ◌/◌, ap, ◌∙◌}
use Rattle.std.specs.Simd.{first_chunks}
use Rattle.lentzone.proofs.DecodeLaws.{chunks_rows}
use Rattle.lentzone.proofs.rows.rows.Goals as goal

pub returns : goal.returns
returns c =
    let z = c.args.z.now in
    let l = c.if-z-ne-ZONE_SIZE.false in
    let e = c.as_chunks.ensures in
    (l, e.front_len ∙ ap (λ (n : ℕ). n / 374) l, e.front ∙ ap (λ (n : ℕ). first_chunks 374 (n / 374) z) l ∙ chunks_rows 374 64 z)
