-- That the bounds are reached: lists of steps of the calls that run. Document 02, k).
use Rattle.std.specs.Prelude.{◌≡◌, ℕ, ◌≤◌}
use Rattle.job.specs.Jobs.{End, conflict, gave_up, ended}
use Rattle.serial.specs.Running.{running}
use Rattle.serial.specs.Values.{Held}
use Rattle.asking.specs.Asking.{Add, stage, requests, deleted_between}

-- ---- the lists

-- An add of the calls that run which ended so, with this many requests, its name deleted so often between the first and the last.
pub record Reached (end : End) (sent deleted : ℕ) : Type 0 where
  pub its : Add running
  pub held : Held its.steps
  pub has_ended : stage running its ≡ ended end
  pub requests : requests running its ≡ sent
  pub deletions : deleted_between running its ≡ deleted

-- Two requests without a deletion, four with one, six with two, and giving up with three.
pub record AllReached : Type 0 where
  pub two : Reached (conflict 2) 2 0
  pub four : Reached (conflict 4) 4 1
  pub six : Reached (conflict 6) 6 2
  pub gave_up : Reached (gave_up 6) 6 3

-- So no smaller bound holds of the calls that run, and no more can be said of deletions where an add gave up.
pub record Tight : Type 0 where
  pub bound : (f : ℕ → ℕ) → ((a : Add running) → requests running a ≤ f (deleted_between running a)) → (2 ≤ f 0) × (4 ≤ f 1) × (6 ≤ f 2)
  pub given : (d : ℕ) → ((a : Add running) (n : ℕ) → stage running a ≡ ended (gave_up n) → d ≤ deleted_between running a) → d ≤ 3
