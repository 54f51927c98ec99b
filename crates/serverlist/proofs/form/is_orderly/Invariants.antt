use Rattle.std.proofs.Common.{◌≡◌, length}
use Rattle.entries.specs.Entries.{is_orderly}
use Rattle.serverlist.specs.Servers.{servers}
use Rattle.serverlist.proofs.form.is_orderly.Given as goal

abbrev pub invariant-loop-e : goal.invariant-loop-e
invariant-loop-e l = is_orderly servers l.entries ≡ is_orderly servers l.rest

abbrev pub decreases-loop-e : goal.decreases-loop-e
decreases-loop-e l = length l.rest
