use Rattle.std.proofs.Common.{◌≡◌, ◌≤◌, length, take}
use Rattle.entries.specs.Entries.{unexpired}
use Rattle.serverlist.specs.Servers.{servers, held, packed}
use Rattle.serverlist.proofs.expiry.filtered.Given as goal

abbrev pub invariant-loop-e : goal.invariant-loop-e
invariant-loop-e l =
    record {
      holds : l.e-items ≡ held l.l;
      eight : length l.e-items ≤ 8;
      packs : l.out ≡ packed l.clock (unexpired servers l.clock (take l.e-index l.e-items));
      short : length (unexpired servers l.clock (take l.e-index l.e-items)) ≤ l.e-index;
    }
