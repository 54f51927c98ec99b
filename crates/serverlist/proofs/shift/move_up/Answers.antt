use Rattle.std.proofs.Common.{ap, refl, ◌∙◌, arith, slice_set}
use Rattle.entries.proofs.PlaceLaws.{moved_up}
use Rattle.entries.proofs.PackLaws.{same_list}
use Rattle.serverlist.specs.Places.{server_places}
use Rattle.serverlist.proofs.shift.move_up.Goals as goal

pub returns : goal.returns
returns c =
    let a = c.args in
    same_list server_places (ap (λ x. slice_set x a.at a.e) c.copy_within.ensures.after ∙ moved_up a.l.now.entries a.out a.at a.e (omega arith) (omega arith)) refl refl
