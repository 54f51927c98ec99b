use Rattle.std.proofs.Common.{refl, sym}
use Rattle.update.specs.Rules.{request_a}
use Rattle.update.specs.Meaning.{update_of}
use Rattle.request.specs.Promise.{number_of}
use Rattle.request.proofs.LentLaws.{adds_stays, promised_adds}
use Rattle.request.proofs.lent.jespurla_request_a_lent.Goals as goal

pub returns-in-Stays : goal.returns-in-Stays
returns-in-Stays c =
    let a = c.args in
    let v = c.in-Ok.ensures in
    rw c.says.ensures (adds_stays a.octets.now a.name a.family 0 c.in-Ok.s (v.surveyed _ refl) (sym v.refusal_is) (λ n. request_a (update_of n a.dhcid a.family a.address)) c.in-Stays.answer c.in-Stays.ensures)

pub returns-in-Writes : goal.returns-in-Writes
unfolding number_of
returns-in-Writes c =
    let a = c.args in
    let v = c.in-Ok.ensures in
    rw c.says-in-Writes.ensures (promised_adds a.octets.now a.name a.family 0 c.in-Ok.s (v.surveyed _ refl) (sym v.refusal_is) (λ n. request_a (update_of n a.dhcid a.family a.address)) _ _ _ c.in-Writes.ensures c.write_entry.ensures)
