use Rattle.std.proofs.Common.{rules}
use Rattle.update.specs.Rules.{remove_address}
use Rattle.update.specs.Meaning.{update_of}
use Rattle.request.proofs.in_place.send_remove_address.Goals as goal

pub returns : goal.returns
returns c =
    let a = c.args in
    c.send.ensures (λ n. remove_address (update_of n a.dhcid a.family a.address)) (λ o w p. search rules)
