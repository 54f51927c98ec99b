use Rattle.std.proofs.Common.{◌-◌, ap, ◌∙◌}
use Rattle.entries.specs.Places.{exchanged, inserted_in}
use Rattle.entries.proofs.InsertLaws.{put_in_room, put_for_own, put_for_other}
use Rattle.serverlist.specs.Servers.{servers}
use Rattle.serverlist.specs.Places.{server_places}
use Rattle.serverlist.specs.declared.Server.{Server}
use Rattle.rdnss.proofs.option.insert.Goals as goal

pub returns-then-l-lt-PLACES : goal.returns-then-l-lt-PLACES
returns-then-l-lt-PLACES c =
    let s = c.args in
    let l = s.l.now in
    put_in_room servers server_places l s.own c.requires s.a s.x c.if-l-lt-PLACES.true (c.insert.ensures ∙ ap (λ (e : Server). inserted_in server_places s.own e l) c.about-e.ensures)

pub returns-then-k-own : goal.returns-then-k-own
returns-then-k-own c =
    let s = c.args in
    let l = s.l.now in
    let k = c.evict_place-k.result in
    put_for_own servers server_places l s.own c.requires k c.if-l-lt-PLACES.false c.evict_place-k.ensures s.a s.x c.if-k-own.true
    (c.exchange.ensures ∙ ap (λ (e : Server). exchanged server_places k (s.own - 1) e l) c.about-e.ensures)

pub returns : goal.returns
returns c =
    let s = c.args in
    let l = s.l.now in
    let k = c.evict_place-k.result in
    put_for_other servers server_places l s.own c.requires k c.if-l-lt-PLACES.false c.evict_place-k.ensures s.a s.x c.if-k-own.false
    (c.exchange-2.ensures ∙ ap (λ (e : Server). exchanged server_places k s.own e l) c.about-e.ensures)
