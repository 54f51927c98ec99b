use Rattle.zone.specs.Survey.{place_of}
use Rattle.request.proofs.HostLaws.{means4, means6, joined4, joined6}
use Rattle.request.proofs.host.join.Goals as goal

pub returns-then-family-eq4 : goal.returns-then-family-eq4
returns-then-family-eq4 c =
    let w = c.join.ensures in
    record { joins = λ n u b o r. joined4 (place_of n c.args.e) o u _ c.join.result (means4 b c.if-family-eq4.true c.addr4.ensures) w.list_is w.stays_few r }

pub returns-else-family-eq4 : goal.returns-else-family-eq4
returns-else-family-eq4 c =
    let w = c.join-else-family-eq4.ensures in
    record { joins = λ n u b o r. joined6 (place_of n c.args.e) o u _ c.join-else-family-eq4.result (means6 b c.if-family-eq4.false c.addr6.ensures) w.list_is w.stays_few r }
