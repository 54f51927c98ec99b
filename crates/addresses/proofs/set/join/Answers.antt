use Rattle.std.proofs.Common.{sym, ◌∙◌, ap, length, arith}
use Rattle.addresses.proofs.ChangeLaws.{added_there, join_full, join_new}
use Rattle.addresses.proofs.set.join.Goals as goal
use Rattle.addresses.proofs.set.join.Goals.{then-n-eq4-via-then-n-eq4, then-n-eq4-via-else-n-eq4+then-has}

pub returns-then-n-eq4 : goal.returns-then-n-eq4
returns-then-n-eq4 g c =
    let e = c.held-n.ensures in
    elim c.then-n-eq4.branch [
      | then-n-eq4-via-then-n-eq4 w ↦ join_full g.S.Addr.Addr.octets_of _ _ _ e.four (ap length e.list) (omega (arith, w.if-n-eq4.true))
      | then-n-eq4-via-else-n-eq4+then-has w ↦ added_there g.S.Addr.Addr.octets_of _ _ (sym w.has.ensures ∙ w.if-has.true)
    ]

pub returns : goal.returns
returns g c = let e = c.held-n.ensures in join_new g.S.Addr.Addr.octets_of _ _ _ e.four (ap length e.list) (g.S.Set.counted c.put.new.self) _ (sym c.has.ensures ∙ c.if-has.false) (λ k. c.if-n-eq4.false (omega (arith, k))) c.put.ensures c.keep.ensures
