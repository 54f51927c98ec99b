use Rattle.addresses.proofs.SetLaws.{of_empty4, of_empty6}
use Rattle.request.proofs.HostLaws.{made}
use Rattle.request.proofs.host.fresh.Goals as goal

pub returns : goal.returns
returns c =
    let s = c.args in
    let e = c.default.ensures in
    let f = c.default-2.ensures in
    let p = of_empty4 e in
    let q = of_empty6 f in
    record { stands = λ n. made n s.d _ _ p.0 p.1 q.0 q.1 s.family s.a c.join.result c.join.ensures }
