use Rattle.zone.specs.Survey.{place_of}
use Rattle.request.proofs.HostLaws.{means4, means6, parted4, parted6}
use Rattle.request.proofs.host.part.Goals as goal

pub returns-then-family-eq4 : goal.returns-then-family-eq4
returns-then-family-eq4 c =
    let w = c.without.ensures in
    record { parts = λ u b. record { makes = λ n o. parted4 (place_of n c.args.e) o u _ c.without.result (means4 b c.if-family-eq4.true c.addr4.ensures) w.list_is w.is_few } }

pub returns-else-family-eq4 : goal.returns-else-family-eq4
returns-else-family-eq4 c =
    let w = c.without-else-family-eq4.ensures in
    record { parts = λ u b. record { makes = λ n o. parted6 (place_of n c.args.e) o u _ c.without-else-family-eq4.result (means6 b c.if-family-eq4.false c.addr6.ensures) w.list_is w.is_few } }
