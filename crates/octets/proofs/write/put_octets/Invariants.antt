use Rattle.std.proofs.Common.{length, take, ◌≡◌, ◌≤◌}
use Rattle.octets.specs.Write.{put}
use Rattle.octets.proofs.write.put_octets.Given as goal

abbrev pub invariant-loop-i : goal.invariant-loop-i
invariant-loop-i l = (l.i ≤ length l.src) × (length l.buf ≡ length l.fn.buf) × (l.buf ≡ put l.fn.buf l.at (take l.i l.src))
