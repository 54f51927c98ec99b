use Rattle.entries.proofs.ChainLaws.{Foremost}
use Rattle.serverlist.specs.Servers.{servers, blank}
use Rattle.serverlist.proofs.eviction.evict_place.Given as goal

abbrev pub invariant-loop-at : goal.invariant-loop-at
invariant-loop-at l = Foremost servers l.l.entries blank l.at l.c
