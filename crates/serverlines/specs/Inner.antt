-- What inner functions promise. No contract of a pub fn cites this.
use Rattle.std.specs.Prelude.{ℕ, ◌≤◌, List, length}
use Rattle.octets.specs.Write.{WroteIf}

-- ys was written if it fits, and has at most so many octets.
pub record PutWithin (most : ℕ) (buffer : List ℕ) (at : ℕ) (ys after : List ℕ) (end : ℕ) : Type 0 where
  pub wrote : WroteIf buffer at ys after end
  pub short : length ys ≤ most
