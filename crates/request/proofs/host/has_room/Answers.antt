use Rattle.std.proofs.Common.{sym, ◌∙◌}
use Rattle.addresses.specs.Addresses.{four, six}
use Rattle.zone.specs.Survey.{place_of}
use Rattle.request.proofs.HostLaws.{means4, means6, fits_by}
use Rattle.request.proofs.host.has_room.Goals as goal

pub returns-then-family-eq4 : goal.returns-then-family-eq4
returns-then-family-eq4 c =
    record { room_is = λ n u b. c.has_room.ensures ∙ sym (fits_by (place_of n c.args.e) u four _ (means4 b c.if-family-eq4.true c.addr4.ensures)) }

pub returns-else-family-eq4 : goal.returns-else-family-eq4
returns-else-family-eq4 c =
    record { room_is = λ n u b. c.has_room-else-family-eq4.ensures ∙ sym (fits_by (place_of n c.args.e) u six _ (means6 b c.if-family-eq4.false c.addr6.ensures)) }
