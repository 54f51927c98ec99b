use Rattle.std.proofs.Common.{◌≡◌, false, map, drop}
use mathlib.Core.List.{foldl}
use Rattle.entries.specs.Entries.{named}
use Rattle.entries.specs.Places.{Ready, marked}
use Rattle.serverlist.specs.Servers.{servers, held}
use Rattle.serverlist.specs.Places.{server_places}
use Rattle.rdnss.specs.Places.{address}
use Rattle.rdnss.proofs.option.name.Given as goal

abbrev pub invariant-loop-octets : goal.invariant-loop-octets
invariant-loop-octets l =
    record {
      ready : Ready server_places l.l l.own;
      clock : l.l.clock ≡ l.initial.l.clock;
      left : foldl (named servers false l.x) (marked 0 (held l.initial.l)) (map address l.addresses)
          ≡ foldl (named servers false l.x) (marked l.own (held l.l)) (map address (drop l.octets-index l.addresses));
    }
