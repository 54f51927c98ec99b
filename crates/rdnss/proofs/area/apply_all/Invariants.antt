use Rattle.std.proofs.Common.{◌≡◌, true, length}
use mathlib.Core.List.{foldl}
use Rattle.entries.specs.Places.{InPlaces}
use Rattle.serverlist.specs.Servers.{servers, held}
use Rattle.serverlist.specs.Places.{server_places}
use Rattle.rdnss.specs.Area.{is_whole, options, named_by}
use Rattle.rdnss.specs.Options.{option_applied}
use Rattle.rdnss.proofs.area.apply_all.Given as goal

abbrev pub invariant-loop-option : goal.invariant-loop-option
invariant-loop-option l =
    record {
      whole : is_whole 0 l.rest ≡ true;
      list : InPlaces server_places l.l;
      clock : l.l.clock ≡ l.initial.l.clock;
      left : foldl (option_applied l.arrival.clock l.arrival.router servers named_by) (held l.initial.l) (options 0 l.area)
          ≡ foldl (option_applied l.arrival.clock l.arrival.router servers named_by) (held l.l) (options 0 l.rest);
    }

abbrev pub decreases-loop-option : goal.decreases-loop-option
decreases-loop-option l = length l.rest
