use Rattle.zone.specs.Survey.{place_of}
use Rattle.lentzone.proofs.PlaceLaws.{written_no_zone, written_no_place, written_entry}
use Rattle.lentzone.proofs.place.write_entry.Goals as goal
use Rattle.lentzone.proofs.place.write_entry.Goals.{else-place-lt64-via-then-place-lt64+else-z-eq-ZONE_SIZE, else-place-lt64-via-else-place-lt64}

pub returns-then-z-eq-ZONE_SIZE : goal.returns-then-z-eq-ZONE_SIZE
returns-then-z-eq-ZONE_SIZE c =
    let s = c.args in
    written_entry s.z.now s.place c.if-z-eq-ZONE_SIZE.true c.if-place-lt64.true _ _ (place_of s.n s.r) c.put_entry.ensures

pub returns-else-place-lt64 : goal.returns-else-place-lt64
returns-else-place-lt64 c =
    elim c.else-place-lt64.branch [
      | else-place-lt64-via-then-place-lt64+else-z-eq-ZONE_SIZE w ↦ written_no_zone _ _ _ w.if-z-eq-ZONE_SIZE.false
      | else-place-lt64-via-else-place-lt64 w ↦ written_no_place _ _ _ w.if-place-lt64.false
    ]
