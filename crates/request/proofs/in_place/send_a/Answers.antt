use Rattle.std.proofs.Common.{refl, sym}
use Rattle.update.specs.Rules.{request_a}
use Rattle.update.specs.Meaning.{update_of}
use Rattle.request.proofs.PromiseLaws.{comes_adds}
use Rattle.request.proofs.in_place.send_a.Goals as goal

pub returns-in-Ok : goal.returns-in-Ok
returns-in-Ok c =
    let a = c.args in
    let v = c.in-Ok.ensures in
    rw c.settle.ensures (comes_adds a.zone.now a.name.now a.family 0 c.in-Ok.v (sym v.refusal_is) (v.visited _ refl) (λ n. request_a (update_of n a.dhcid a.family a.address)) _ c.add_name.ensures)
