-- The list by its places, as the functions have it that work on it. No promise of an exported call cites this.
use Rattle.std.specs.Prelude.{cond, refl, leb}
use Rattle.clock.specs.declared.Moment.{Moment}
use Rattle.entries.specs.Entries.{places, unexpired}
use Rattle.entries.specs.Places.{Holder}
use Rattle.serverlist.specs.Servers.{servers, held, blank, packed}
use Rattle.serverlist.specs.declared.Server.{Server}
use Rattle.serverlist.specs.declared.ServerList.{ServerList}

-- How the struct holds the list: beside it stands the clock.
abbrev pub server_places : Holder Server Moment ServerList
server_places =
    record {
      entries = λ l. l.entries;
      count = λ l. l.count;
      rest = λ l. l.clock;
      made = λ e n clock. record { entries = e; count = n; clock = clock };
      blank = blank;
      entries_made = λ e n clock. refl;
      count_made = λ e n clock. refl;
      rest_made = λ e n clock. refl;
      whole = λ l. refl;
    }

-- The list at a new clock, without the entries that expired before it; what has a count above eight stays as it is.
abbrev pub at_clock : Moment → ServerList → ServerList
at_clock clock list = cond (leb list.count places) (packed clock (unexpired servers clock (held list))) list
