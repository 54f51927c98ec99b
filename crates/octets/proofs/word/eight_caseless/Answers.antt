use Rattle.std.proofs.Common.{◌∙◌, ap, [], ◌∷◌, ℕ, ◌/◌, bit_and, bit_or}
use Rattle.octets.proofs.WordLaws.{value_caseless}
use Rattle.octets.proofs.word.eight_caseless.Goals as goal

pub returns : goal.returns
returns c =
    let a = c.args in
    let f = c.ranges in
    ap (λ (x : ℕ). bit_or x (bit_and (x / 2) 0x2020_2020_2020_2020)) c.eight-w.ensures
    ∙ value_caseless (a.a ∷ a.b ∷ a.c ∷ a.d ∷ a.e ∷ a.f ∷ a.g ∷ a.h ∷ [])
    (f.a.fits, (f.b.fits, (f.c.fits, (f.d.fits, (f.e.fits, (f.f.fits, (f.g.fits, (f.h.fits, tt))))))))
