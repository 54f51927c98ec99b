use Rattle.std.proofs.Common.{get_or, sym, ◌∙◌, ap, arith}
use Rattle.addresses.proofs.ChangeLaws.{parting_skip, parting_keep, parting_end}
use Rattle.addresses.proofs.set.without.Goals as goal
use Rattle.addresses.proofs.set.without.Goals.{then-not-is_same, else-not-is_same}

pub loop-b-preserved : goal.loop-b-preserved
loop-b-preserved g c =
    elim c.if-not-is_same.branch [
      | then-not-is_same w ↦ parting_keep (g.S.Set.counted c.loop-b.t) _ _ _ (omega arith) (c.b-item.is ∙ ap (λ l. get_or l c.loop-b.b-index c.b-item.result) c.held-b-items.ensures.list) c.loop-b.invariant (ap g.S.Set.counted w.t-is ∙ w.put.ensures) w.n-is (sym c.is_same.ensures ∙ w.if-not-is_same.true)
      | else-not-is_same w ↦ parting_skip (g.S.Set.counted c.loop-b.t) _ _ _ (omega arith) (c.b-item.is ∙ ap (λ l. get_or l c.loop-b.b-index c.b-item.result) c.held-b-items.ensures.list) c.loop-b.invariant (ap g.S.Set.counted w.t-is) w.n-is (sym c.is_same.ensures ∙ w.if-not-is_same.false)
    ]

pub returns : goal.returns
returns g c = parting_end _ (g.S.Set.counted c.loop-b.t) _ c.loop-b.invariant (omega arith) c.keep.ensures
