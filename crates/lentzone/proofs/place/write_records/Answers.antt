use Rattle.lentzone.proofs.PlaceLaws.{written_no_zone, written_no_place, written_records}
use Rattle.lentzone.proofs.place.write_records.Goals as goal
use Rattle.lentzone.proofs.place.write_records.Goals.{else-place-lt64-via-then-place-lt64+else-z-eq-ZONE_SIZE, else-place-lt64-via-else-place-lt64}

pub returns-then-z-eq-ZONE_SIZE : goal.returns-then-z-eq-ZONE_SIZE
returns-then-z-eq-ZONE_SIZE c =
    let s = c.args in
    written_records s.z.now s.place c.if-z-eq-ZONE_SIZE.true c.if-place-lt64.true _ _ s.r _ _ c.put_octet.ensures c.put_records.ensures

pub returns-else-place-lt64 : goal.returns-else-place-lt64
returns-else-place-lt64 c =
    elim c.else-place-lt64.branch [
      | else-place-lt64-via-then-place-lt64+else-z-eq-ZONE_SIZE w ↦ written_no_zone _ _ _ w.if-z-eq-ZONE_SIZE.false
      | else-place-lt64-via-else-place-lt64 w ↦ written_no_place _ _ _ w.if-place-lt64.false
    ]
