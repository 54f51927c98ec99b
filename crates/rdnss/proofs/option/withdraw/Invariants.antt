use Rattle.std.proofs.Common.{◌≡◌, map, drop}
use mathlib.Core.List.{foldl}
use Rattle.entries.specs.Entries.{removed}
use Rattle.entries.specs.Places.{InPlaces}
use Rattle.serverlist.specs.Servers.{servers, held}
use Rattle.serverlist.specs.Places.{server_places}
use Rattle.rdnss.specs.Places.{address}
use Rattle.rdnss.proofs.option.withdraw.Given as goal

abbrev pub invariant-loop-octets : goal.invariant-loop-octets
invariant-loop-octets l =
    record {
      list : InPlaces server_places l.l;
      clock : l.l.clock ≡ l.initial.l.clock;
      left : foldl (λ h a. removed servers a h) (held l.initial.l) (map address l.addresses)
          ≡ foldl (λ h a. removed servers a h) (held l.l) (map address (drop l.octets-index l.addresses));
    }
