use Rattle.std.proofs.Common.{sym, ◌∙◌, true≢false}
use Rattle.zonesame.proofs.HostLaws.{host_owner, host_sets4, host_sets6}
use Rattle.zonesame.proofs.host.is_same_host.Goals as goal
use Rattle.zonesame.proofs.host.is_same_host.Goals.{then-is_same_owner, else-is_same_owner}

pub returns-then-is_same_set : goal.returns-then-is_same_set
returns-then-is_same_set c =
    let h = c.is_same_owner.ensures in
    let r = c.is_same_set-then-is_same_set.ensures in
    elim c.if-is_same_owner.branch [
      | then-is_same_owner w ↦ r ∙ host_sets6 _ _ (sym h ∙ w.if-is_same_owner.true) (sym w.is_same_set.ensures ∙ sym w.value-is ∙ c.if-is_same_set.true)
      | else-is_same_owner w ↦ absurd (true≢false (sym c.if-is_same_set.true ∙ w.value-is ∙ w.if-is_same_owner.false))
    ]

pub returns-else-is_same_set : goal.returns-else-is_same_set
returns-else-is_same_set c =
    let h = c.is_same_owner.ensures in
    elim c.if-is_same_owner.branch [
      | then-is_same_owner w ↦ c.if-is_same_set.false ∙ host_sets4 _ _ (sym h ∙ w.if-is_same_owner.true) (sym w.is_same_set.ensures ∙ sym w.value-is ∙ c.if-is_same_set.false)
      | else-is_same_owner w ↦ c.if-is_same_set.false ∙ host_owner _ _ (sym h ∙ w.if-is_same_owner.false)
    ]
