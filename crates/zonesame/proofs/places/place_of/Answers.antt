use Rattle.std.proofs.Common.{List, ℕ, [], ◌∙◌, ap, get_or}
use Rattle.zonesame.proofs.PlacesLaws.{row_of}
use Rattle.zonesame.proofs.places.place_of.Goals as goal

pub returns : goal.returns
returns c = ap (λ (l : List (List ℕ)). get_or l c.args.place []) c.places_of.ensures.are ∙ row_of c.args.z.now c.args.place c.requires.0 c.requires.1
