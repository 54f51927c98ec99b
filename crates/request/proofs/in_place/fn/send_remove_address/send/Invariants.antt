use Rattle.update.specs.Rules.{remove_address}
use Rattle.request.specs.Inner.{update_at, Decides}
use Rattle.request.proofs.in_place.fn.send_remove_address.send.Given as goal

abbrev pub ensures : goal.ensures
ensures l r = Decides (λ n. remove_address (update_at l.update n)) l.found r
