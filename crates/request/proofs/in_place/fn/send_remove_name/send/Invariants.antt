use Rattle.update.specs.Rules.{remove_name}
use Rattle.request.specs.Inner.{update_at, Decides}
use Rattle.request.proofs.in_place.fn.send_remove_name.send.Given as goal

abbrev pub ensures : goal.ensures
ensures l r = Decides (λ n. remove_name (update_at l.update n)) l.found r
