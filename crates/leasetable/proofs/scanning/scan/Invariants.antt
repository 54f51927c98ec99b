use Rattle.std.proofs.Common.{◌≡◌, drop}
use mathlib.Core.List.{foldl}
use Rattle.leasetable.proofs.Scan.{turn}
use Rattle.leasetable.proofs.scanning.scan.Given as goal

-- What is folded so far goes on over the records that are left.
abbrev pub invariant-loop-x : goal.invariant-loop-x
invariant-loop-x g l = foldl (turn g.A.Carried.wants g.A.Carried.add) l.fn.a l.t ≡ foldl (turn g.A.Carried.wants g.A.Carried.add) l.a (drop l.x-index l.t)
