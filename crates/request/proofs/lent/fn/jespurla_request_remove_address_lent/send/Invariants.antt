use Rattle.update.specs.Rules.{remove_address}
use Rattle.request.specs.Inner.{update_at, Decides}
use Rattle.request.proofs.lent.fn.jespurla_request_remove_address_lent.send.Given as goal

abbrev pub ensures : goal.ensures
ensures l r = Decides (λ n. remove_address (update_at l.update n)) l.found r
