use Rattle.std.proofs.Common.{List, ℕ, ◌∙◌, ap, length, map}
use Rattle.zone.specs.Meaning.{keys}
use Rattle.lentzone.specs.Decode.{entry_in, zone_in}
use Rattle.zonesame.proofs.PlacesLaws.{names_counted}
use Rattle.zonesame.proofs.count.names_in.Goals as goal

pub returns : goal.returns
unfolding zone_in
returns c = c.used_in.ensures ∙ names_counted _ ∙ ap (λ (l : List (List ℕ)). length (keys (map entry_in l))) c.places_of.ensures.are
