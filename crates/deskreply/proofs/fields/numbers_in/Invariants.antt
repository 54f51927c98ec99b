-- The numbers so far stand at the front of the list.
use Rattle.std.proofs.Common.{◌≡◌, replicate}
use Rattle.octets.specs.Write.{put}
use Rattle.deskreply.specs.Reading.{numbers}
use Rattle.deskreply.proofs.fields.numbers_in.Given as goal

abbrev pub invariant-loop-i : goal.invariant-loop-i
invariant-loop-i l = l.list ≡ put (replicate 63 0) 0 (numbers l.i l.v)
