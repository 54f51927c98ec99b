use Rattle.std.proofs.Common.{◌≡◌, ◌++◌, take, drop}
use Rattle.leasetable.specs.Folds.{placed_rank}
use Rattle.leasetable.proofs.client.insert.Given as goal

-- The ranks passed, and what is left put among those behind them.
abbrev pub invariant-loop-place : goal.invariant-loop-place
invariant-loop-place g l = placed_rank l.fn.e l.initial.place-items ≡ take l.place-index l.place-items ++ placed_rank l.left (drop l.place-index l.place-items)
