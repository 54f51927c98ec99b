use Rattle.std.proofs.Common.{rules}
use Rattle.update.specs.Rules.{request_b}
use Rattle.update.specs.Meaning.{policy_of, update_of}
use Rattle.request.proofs.in_place.send_b.Goals as goal

pub returns : goal.returns
returns c =
    let a = c.args in
    c.send.ensures (λ n. request_b (policy_of a.policy) (update_of n a.dhcid a.family a.address)) (λ o w p. search rules)
