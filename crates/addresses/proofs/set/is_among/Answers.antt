use Rattle.std.proofs.Common.{◌∙◌, rules}
use Rattle.std.proofs.lemmas.Iterator.{YieldsList-from_slice}
use Rattle.std.proofs.lemmas.Iterator.Search.{any_from_yields_List}
use Rattle.octets.specs.Compare.{same_octets}
use Rattle.addresses.proofs.ListLaws.{any_member}
use Rattle.addresses.proofs.set.is_among.Goals as goal

pub returns : goal.returns
returns g c =
    let f = g.A.Addr.octets_of in
    let a = f c.args.a.now in
    any_from_yields_List (λ x. same_octets (f x) a) _ _ _ c.any.ensures.ran (YieldsList-from_slice c.args.l.now cc) (λ x b q k. search rules)
    ∙ any_member f a c.args.l.now
