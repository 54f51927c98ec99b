-- The DNS server list by itself. Document 01, "Server list" and, for 31 and 15, "Refusal numbers"; document 02, b).
use Rattle.std.specs.Prelude.{Bool, ◌&&◌, List, leb, length, take, replicate}
use Rattle.octets.specs.Compare.{same_octets}
use Rattle.clock.specs.Clock.{moment, is_moment}
use Rattle.clock.specs.declared.Moment.{Moment}
use Rattle.entries.specs.Entries.{Kind, places, filled, is_orderly}
use Rattle.serverlist.specs.declared.Address6.{Address6}
use Rattle.serverlist.specs.declared.Server.{Server}
use Rattle.serverlist.specs.declared.ServerList.{ServerList}

-- The entries of the list: each is about an address, and addresses are the same when their octets are.
abbrev pub servers : Kind Address6 Server
servers =
    record {
      entry = λ a m. record { address = a; expiry = m.expiry; router = m.router };
      about = λ e. e.address;
      moments = λ e. record { expiry = e.expiry; router = e.router };
      renew = λ m e. record { address = e.address; expiry = m.expiry; router = m.router };
      same = λ a b. same_octets a.octets b.octets;
    }

-- The entries that a list holds, in order of preference. What stands in the places behind them is no part of the list.
abbrev pub held : ServerList → List Server
held list = take list.count list.entries

abbrev pub blank : Server
blank = record { address = record { octets = replicate 16 0 }; expiry = moment 0; router = moment 0 }

-- Entries in the eight places, with the last accepted clock. The places behind them are zero.
abbrev pub packed : Moment → List Server → ServerList
packed clock l = record { entries = filled blank l; count = length l; clock = clock }

-- Refusal 31 is given unless the list holds at most eight, its last accepted clock is a moment, no address stands twice and each entry has moments.
unfoldable pub is_sound : ServerList → Bool
is_sound list = leb list.count places && is_moment list.clock && is_orderly servers (held list)

-- Refusal 15 is given unless the clock is a moment, and not behind the last accepted one.
unfoldable pub is_timely : ServerList → Moment → Bool
is_timely list clock = is_moment clock && leb list.clock.0 clock.0
