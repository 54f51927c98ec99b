use Rattle.std.proofs.Common.{rules}
use Rattle.update.specs.Rules.{remove_name}
use Rattle.update.specs.Meaning.{update_of}
use Rattle.request.proofs.in_place.send_remove_name.Goals as goal

pub returns : goal.returns
returns c =
    let a = c.args in
    c.send.ensures (λ n. remove_name (update_of n a.dhcid a.family a.address)) (λ o w p. search rules)
