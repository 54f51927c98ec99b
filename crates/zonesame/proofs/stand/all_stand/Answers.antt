use Rattle.std.proofs.Common.{arith, List, ℕ, ◌<◌, sym, ◌∙◌, ap, length}
use Rattle.zone.proofs.SurveyLaws.{blank}
use Rattle.zone.specs.Meaning.{used}
use Rattle.lentzone.specs.Decode.{zone_in}
use Rattle.lentzone.proofs.DecodeLaws.{zone_length}
use Rattle.lentzone.proofs.PlaceLaws.{place_at}
use Rattle.zonesame.specs.Inner.{stands_in, all_stand}
use Rattle.zonesame.proofs.PlacesLaws.{row_used, row_free}
use Rattle.zonesame.proofs.StandLaws.{stand_free, stand_hit, stand_miss, stand_end}
use Rattle.zonesame.proofs.stand.all_stand.Goals as goal
use Rattle.zonesame.proofs.stand.all_stand.Goals.{else-place-ne0-via-then-place-ne0+else-not-stands, else-place-ne0-via-else-place-ne0}

pub returns-then-not-stands : goal.returns-then-not-stands
returns-then-not-stands c =
    let left = c.args.left.now in
    let right = c.of-right.result.zone.now in
    let l = c.loop-i in
    let p = c.places_of-place-items in
    let k : l.i < 64 = omega (arith, p.ensures.all) in
    let h : l.i < length (zone_in left).entries = omega (arith, zone_length left) in
    let r = place_at left l.i c.requires.0 k blank in
    let u = ap used (sym r) ∙ row_used left p.result.now c.requires.0 p.ensures.are l.i k c.if-place-ne0.true in
    let e = ap (stands_in right) (sym r) ∙ sym c.stands.ensures ∙ c.if-not-stands.true in
    sym (stand_miss right (zone_in left).entries blank l.i h u e) ∙ sym l.invariant ∙ ap (λ (z : List ℕ). all_stand z (zone_in left).entries) c.of-right.ensures

pub loop-i-preserved : goal.loop-i-preserved
loop-i-preserved c =
    let left = c.args.left.now in
    let right = c.of-right.result.zone.now in
    let l = c.loop-i in
    let p = c.places_of-place-items in
    let k : l.i < 64 = omega (arith, p.ensures.all) in
    let h : l.i < length (zone_in left).entries = omega (arith, zone_length left) in
    let r = place_at left l.i c.requires.0 k blank in
    l.invariant
    ∙ elim c.else-place-ne0.branch [
      | else-place-ne0-via-then-place-ne0+else-not-stands w ↦ stand_hit right (zone_in left).entries blank l.i h
          (ap used (sym r) ∙ row_used left p.result.now c.requires.0 p.ensures.are l.i k w.if-place-ne0.true)
          (ap (stands_in right) (sym r) ∙ sym w.stands.ensures ∙ w.if-not-stands.false)
      | else-place-ne0-via-else-place-ne0 w ↦ stand_free right (zone_in left).entries blank l.i h
          (ap used (sym r) ∙ row_free left p.result.now c.requires.0 p.ensures.are l.i k w.if-place-ne0.false)
    ]

pub returns : goal.returns
returns c =
    let left = c.args.left.now in
    let l = c.loop-i in
    let p = c.places_of-place-items in
    sym (stand_end c.of-right.result.zone.now (zone_in left).entries l.i (omega (arith, zone_length left, p.ensures.all)))
    ∙ sym l.invariant ∙ ap (λ (z : List ℕ). all_stand z (zone_in left).entries) c.of-right.ensures
