use Rattle.std.proofs.Common.{◌≡◌, drop}
use Rattle.lentzone.specs.Decode.{zone_in}
use Rattle.zonesame.specs.Inner.{all_stand}
use Rattle.zonesame.proofs.stand.all_stand.Given as goal

abbrev pub invariant-loop-i : goal.invariant-loop-i
invariant-loop-i l = all_stand l.right.zone.now (zone_in l.left).entries ≡ all_stand l.right.zone.now (drop l.i (zone_in l.left).entries)
