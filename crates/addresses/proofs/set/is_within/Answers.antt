use Rattle.std.proofs.Common.{◌∙◌, rules}
use Rattle.std.proofs.lemmas.Iterator.{YieldsList-from_slice}
use Rattle.std.proofs.lemmas.Iterator.Search.{all_from_yields_List}
use Rattle.octets.specs.Count.{member}
use Rattle.addresses.specs.Addresses.{held, listed}
use Rattle.addresses.proofs.ListLaws.{all_within}
use Rattle.addresses.proofs.set.is_within.Goals as goal

pub returns : goal.returns
returns g c =
    let f = g.S.Addr.Addr.octets_of in
    let m = listed f (g.S.Set.counted c.args.t.now) in
    let l = held (g.S.Set.counted c.args.s.now) in
    all_from_yields_List (λ x. member (f x) m) _ _ _ c.all.ensures.ran (YieldsList-from_slice l (search rules)) (λ x b q k. search rules)
    ∙ all_within f m l
