use Rattle.std.proofs.Common.{List, ℕ, sym, ◌∙◌, ap}
use Rattle.lentzone.specs.Inner.{row_at}
use Rattle.zonesame.specs.Inner.{same_place}
use Rattle.zonesame.proofs.PlacesLaws.{same_rows}
use Rattle.zonesame.proofs.places.is_same_at.Goals as goal

pub returns-then-is_same_place : goal.returns-then-is_same_place
returns-then-is_same_place c =
    let s = c.args in
    let e = ap (λ (l : List ℕ). same_place l (row_at s.right.now s.there)) (sym c.place_of.ensures) ∙ ap (same_place c.place_of.result.now) (sym c.place_of-2.ensures) in
    c.if-is_same_place.true
    ∙ same_rows s.left.now s.right.now s.place s.there c.requires.0 c.requires.1 c.requires.2 c.requires.3 (e ∙ sym c.is_same_place.ensures ∙ c.if-is_same_place.true)
