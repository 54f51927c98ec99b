use Rattle.std.proofs.Common.{refl, sym}
use Rattle.request.specs.Promise.{number_of}
use Rattle.request.proofs.LentLaws.{decides_stays, promised_decides}
use Rattle.request.proofs.lent.send.Goals as goal

pub returns-in-Stays : goal.returns-in-Stays
returns-in-Stays g c =
    let a = c.args in
    let v = c.in-Ok.ensures in
    λ rule f. rw c.says.ensures (decides_stays a.octets.now a.name.now a.family a.policy c.in-Ok.s (v.surveyed _ refl) (sym v.refusal_is) rule _ c.standing.ensures c.in-Stays.answer (f _ _ c.in-Stays.ensures))

pub returns-in-Writes : goal.returns-in-Writes
unfolding number_of
returns-in-Writes g c =
    let a = c.args in
    let v = c.in-Ok.ensures in
    λ rule f. rw c.says-in-Writes.ensures (promised_decides a.octets.now a.name.now a.family a.policy c.in-Ok.s (v.surveyed _ refl) (sym v.refusal_is) rule _ c.standing.ensures _ _ _ (f _ _ c.in-Writes.ensures) c.write_records.ensures)
