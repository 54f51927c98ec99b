use Rattle.std.proofs.Common.{length, ◌≤◌, ◌≡◌, take}
use Rattle.octets.specs.Write.{put}
use Rattle.text.specs.Text.{hex}
use Rattle.text.proofs.hex.spell.Given as goal

abbrev pub invariant-loop-i : goal.invariant-loop-i
invariant-loop-i l = record {
  within : l.i ≤ length l.src;
  size : length l.buf ≡ length l.fn.buf;
  spelled : l.buf ≡ put l.fn.buf l.at (hex (take l.i l.src));
}
