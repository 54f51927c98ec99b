-- What the lease query promises. Document 01, "Refusal numbers" and "Lease table and queries".
use Rattle.std.specs.Prelude.{◌≡◌, List, ℕ, length}
use Rattle.clock.specs.declared.Moment.{Moment}
use Rattle.octets.specs.Write.{laid}
use Rattle.lease.specs.declared.Lease.{Lease}
use Rattle.leasequery.specs.declared.LeaseAnswer.{LeaseAnswer}
use Rattle.leasequery.specs.Answer.{Outcome, told, written, answer}

-- A result and a buffer give an outcome: the numbers are its numbers, and its octets stand at the front of the buffer, with all behind
-- them as before. A refusal has no octets, so that every octet of the buffer is as before.
pub record Gives (outcome : Outcome) (before : List ℕ) (result : LeaseAnswer) (after : List ℕ) : Type 0 where
  pub answers : result ≡ told outcome
  pub writes : after ≡ laid (written outcome) before

-- A call at a moment, over a table, for the server of an address, with a query and a buffer, gives the answer to that query.
abbrev pub LeasePromise : Moment → List Lease → ℕ → List ℕ → List ℕ → LeaseAnswer → List ℕ → Type 0
LeasePromise clock table server query before result after = Gives (answer clock table server query (length before)) before result after
