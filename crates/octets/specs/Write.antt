-- Octets written into a lent buffer. Document 01, "Lease table and queries": octets past what is written keep their values.
use Rattle.std.specs.Prelude.{ℕ, ◌+◌, ◌≤◌, cond, List, ◌++◌, ◌≡◌, leb, length, take, drop}

-- A buffer with ys in the place of as many octets from a place on.
unfoldable pub put : List ℕ → ℕ → List ℕ → List ℕ
put buffer at ys = take at buffer ++ (ys ++ drop (at + length ys) buffer)

-- A buffer with octets at its front. With no octets it is the buffer itself.
unfoldable pub laid : List ℕ → List ℕ → List ℕ
laid octets buffer = octets ++ drop (length octets) buffer

-- What the buffer holds after a writer was asked to put ys at a place, and the place that it answers: nothing changes where not all of ys fits.
unfoldable pub laid_at : List ℕ → ℕ → List ℕ → List ℕ
laid_at buffer at ys = cond (leb (at + length ys) (length buffer)) (put buffer at ys) buffer

unfoldable pub next_at : List ℕ → ℕ → List ℕ → ℕ
next_at buffer at ys = cond (leb (at + length ys) (length buffer)) (at + length ys) at

-- The promise of a writer: after is what the buffer holds then, end the place that it answers.
pub record Laid (buffer : List ℕ) (at : ℕ) (ys after : List ℕ) (end : ℕ) : Type 0 where
  pub list : after ≡ laid_at buffer at ys
  pub next : end ≡ next_at buffer at ys

-- ---- for the contracts of inner functions; no promise of an exported call cites these

-- ys fitted, and was written.
pub record Wrote (buffer : List ℕ) (at : ℕ) (ys after : List ℕ) (end : ℕ) : Type 0 where
  pub list : after ≡ put buffer at ys
  pub next : end ≡ at + length ys
  pub fits : end ≤ length buffer

-- ys was written if it fits: what a run of writers comes to, whose room is shown once, at its end.
pub record WroteIf (buffer : List ℕ) (at : ℕ) (ys after : List ℕ) (end : ℕ) : Type 0 where
  pub fit : at + length ys ≤ length buffer → Wrote buffer at ys after end
