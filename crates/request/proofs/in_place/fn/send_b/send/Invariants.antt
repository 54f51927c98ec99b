use Rattle.update.specs.Rules.{request_b}
use Rattle.update.specs.Meaning.{policy_of}
use Rattle.request.specs.Inner.{update_at, Decides}
use Rattle.request.proofs.in_place.fn.send_b.send.Given as goal

abbrev pub ensures : goal.ensures
ensures l r = Decides (λ n. request_b (policy_of l.policy) (update_at l.update n)) l.found r
