use Rattle.std.proofs.Common.{refl, sym}
use Rattle.request.proofs.PromiseLaws.{comes_decides}
use Rattle.request.proofs.in_place.send.Goals as goal

pub returns-in-Ok : goal.returns-in-Ok
returns-in-Ok g c =
    let a = c.args in
    let v = c.in-Ok.ensures in
    λ rule f. rw c.settle.ensures (comes_decides a.zone.now a.name.now a.family a.policy c.in-Ok.v (sym v.refusal_is) (v.visited _ refl) rule _ _ c.records_of.ensures _ c.standing-found.ensures (f _ _ c.decide.ensures))
