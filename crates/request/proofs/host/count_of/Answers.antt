use Rattle.zone.specs.Survey.{place_of}
use Rattle.request.proofs.HostLaws.{count4_by, count6_by}
use Rattle.request.proofs.host.count_of.Goals as goal

pub returns-then-family-eq4 : goal.returns-then-family-eq4
returns-then-family-eq4 c =
    let s = c.args in
    (λ n. count4_by (place_of n s.e.now) s.family _ c.if-family-eq4.true c.count.ensures.0, c.count.ensures.1)

pub returns-else-family-eq4 : goal.returns-else-family-eq4
returns-else-family-eq4 c =
    let s = c.args in
    (λ n. count6_by (place_of n s.e.now) s.family _ c.if-family-eq4.false c.count-else-family-eq4.ensures.0, c.count-else-family-eq4.ensures.1)
