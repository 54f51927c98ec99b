use Rattle.std.proofs.Common.{arith, ◌≡◌, ◌≤◌, ◌<◌, ◌∙◌, sym, length, length-take-le}
use Rattle.std.proofs.lemmas.List.{set-get_or}
use Rattle.leasetable.specs.Folds.{no_rank}
use Rattle.leasetable.proofs.InsertLaws.{place_swaps, place_goes_on, place_keeps, place_drops}
use Rattle.leasetable.proofs.client.insert.Goals as goal
use Rattle.leasetable.proofs.client.insert.Goals.{then-goes_before, else-goes_before}

pub loop-place-preserved : goal.loop-place-preserved
loop-place-preserved g c =
    let l = c.loop-place in
    let h : l.place-index < length l.place-items = omega arith in
    let e = sym c.goes_before.ensures in
    elim c.if-goes_before.branch [
      | then-goes_before w ↦ (let q = place_swaps l.place-items l.left l.place-index h (e ∙ w.if-goes_before.true) in let a = w.left-is in let b = w.place-items-is in let d = w.swap.ensures.x_after in let f = w.swap.ensures.y_after in cc)
      | else-goes_before w ↦ (let q = place_goes_on l.place-items l.left l.place-index h (e ∙ w.if-goes_before.false) in let a = w.left-is in let b = w.place-items-is ∙ set-get_or l.place-items l.place-index no_rank in cc)
    ]

pub returns-then-kept : goal.returns-then-kept
returns-then-kept g c =
    let n : c.args.kept ≤ length c.args.ranks.now = omega arith in
    let e : length c.loop-place.place-items ≡ c.args.kept = c.loop-place.auto.place-items ∙ length-take-le c.args.kept c.args.ranks.now n in
    place_keeps _ _ _ _ _ _ _ c.loop-place.invariant e c.told-ranks (omega arith) c.if-kept.true

pub returns-else-kept : goal.returns-else-kept
returns-else-kept g c =
    let n : c.args.kept ≤ length c.args.ranks.now = omega arith in
    let e : length c.loop-place.place-items ≡ c.args.kept = c.loop-place.auto.place-items ∙ length-take-le c.args.kept c.args.ranks.now n in
    place_drops _ _ _ _ _ _ _ c.loop-place.invariant e c.told-ranks (omega arith) c.if-kept.false c.requires
