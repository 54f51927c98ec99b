use Rattle.addresses.proofs.SetLaws.{of_empty4, of_empty6}
use Rattle.zone.specs.Survey.{place_of}
use Rattle.request.proofs.HostLaws.{kept_empty}
use Rattle.request.proofs.host.clear_all.Goals as goal

pub returns : goal.returns
returns c =
    let p = c.default.ensures in
    let q = c.default-2.ensures in
    let a = of_empty4 p in
    let b = of_empty6 q in
    record { makes = λ n o. kept_empty (place_of n c.args.e) _ _ o a.0 a.1 b.0 b.1 }
