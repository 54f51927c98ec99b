-- A router's option area on the DNS server list. Document 01, "Server list" and, for 16, "Refusal numbers"; document 02, b).
use Rattle.std.specs.Prelude.{Bool, cond, not, List, ℕ, eqb}
use Rattle.clock.specs.declared.Moment.{Moment}
use Rattle.clock.specs.declared.Span.{Span}
use Rattle.serverlist.specs.declared.Server.{Server}
use Rattle.serverlist.specs.declared.ServerList.{ServerList}
use Rattle.serverlist.specs.Servers.{servers, held, packed, is_sound, is_timely}
use Rattle.rdnss.specs.declared.ServerListAnswer.{ServerListAnswer}
use Rattle.rdnss.specs.Area.{is_area, named_by}
use Rattle.rdnss.specs.Options.{is_router_lifetime, applied}

-- The servers after an area.
abbrev pub servers_after : Moment → Span → List ℕ → List Server → List Server
servers_after clock router area l = applied clock router servers named_by area l

-- An answer is a refusal number, 0 for none, and a list.
abbrev pub answer : ℕ → ServerList → ServerListAnswer
answer refusal list = record { refusal = refusal; list = list }

-- The refusals in their order, by whether the list is sound, the clock timely, the router lifetime one and the area one; the first that applies is given, and 0 where none does.
unfoldable pub first_refusal : Bool → Bool → Bool → Bool → ℕ
first_refusal sound timely lasting whole =
    cond (not sound) 31
    (cond (not timely) 15
    (cond (not lasting) 15
    (cond (not whole) 16
    0)))

-- The refusal of a call.
abbrev pub refusal_of : ServerList → Moment → Span → List ℕ → ℕ
refusal_of list clock router area = first_refusal (is_sound list) (is_timely list clock) (is_router_lifetime router) (is_area area)

-- The whole call. A refusal gives the very list that was handed in.
unfoldable pub server_list : ServerList → Moment → Span → List ℕ → ServerListAnswer
server_list list clock router area =
    cond (eqb (refusal_of list clock router area) 0)
    (answer 0 (packed clock (servers_after clock router area (held list))))
    (answer (refusal_of list clock router area) list)
