use Rattle.std.proofs.Common.{◌∙◌, rules}
use Rattle.std.proofs.lemmas.Iterator.{YieldsList-from_slice}
use Rattle.std.proofs.lemmas.Iterator.Search.{any_from_yields_List}
use Rattle.dname.specs.Name.{name_of}
use Rattle.zone.specs.Survey.{named}
use Rattle.zone.proofs.SurveyLaws.{any_named}
use Rattle.zone.proofs.survey.is_among.Goals as goal

pub returns : goal.returns
returns c =
    let n = name_of c.args.n.now in
    let es = c.args.places.now in
    any_from_yields_List (named n) _ _ _ c.any.ensures.ran (YieldsList-from_slice es (search rules)) (λ x b q k. search rules) ∙ any_named n es
