use Rattle.std.proofs.Common.{ℕ, List, map, ◌∙◌, rules}
use Rattle.std.proofs.lemmas.Iterator.{YieldsList-from_slice}
use Rattle.std.proofs.lemmas.Iterator.Search.{any_from_yields_List}
use Rattle.zone.specs.Survey.{named}
use Rattle.zone.proofs.SurveyLaws.{any_named}
use Rattle.lentzone.specs.Decode.{entry_in}
use Rattle.lentzone.proofs.DecodeLaws.{any_map}
use Rattle.lentzone.proofs.names.is_among.Goals as goal

pub returns : goal.returns
returns c =
    let n = c.args.n.now in
    let rs = c.args.places.now in
    any_from_yields_List (λ (r : List ℕ). named n (entry_in r)) _ _ _ c.any.ensures.ran (YieldsList-from_slice rs (search rules)) (λ x b q k. search rules)
    ∙ any_map entry_in (named n) rs
    ∙ any_named n (map entry_in rs)
