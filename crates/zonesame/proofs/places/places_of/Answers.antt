use Rattle.std.proofs.Common.{◌∙◌}
use Rattle.zonesame.proofs.PlacesLaws.{zone_rows}
use Rattle.zonesame.proofs.places.places_of.Goals as goal

pub returns-clause-are : goal.returns-clause-are
returns-clause-are c = c.as_chunks.ensures.front ∙ zone_rows c.args.z.now c.requires
