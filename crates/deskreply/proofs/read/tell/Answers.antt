use Rattle.std.proofs.Common.{sym, ◌∙◌}
use Rattle.deskreply.proofs.ReadingLaws.{reply_long, addresses_short, tells_active, tells_other}
use Rattle.deskreply.proofs.read.tell.Goals as goal

pub addresses_in-listed-requires : goal.addresses_in-listed-requires
addresses_in-listed-requires c = addresses_short c.args.p.now c.requires (sym c.kind_of-kind.ensures ∙ c.if-kind-eq-DHCPLEASEACTIVE.true)

pub fill-requires : goal.fill-requires
fill-requires c = reply_long c.args.p.now c.requires

pub returns-then-kind-eq-DHCPLEASEACTIVE : goal.returns-then-kind-eq-DHCPLEASEACTIVE
returns-then-kind-eq-DHCPLEASEACTIVE c =
    c.fill.ensures ∙ rw (c.addresses_in-listed.ensures, c.kind_of-kind.ensures) (tells_active c.args.p.now c.time_in-left.result c.time_in-since.result c.time_in-left.ensures c.time_in-since.ensures (sym c.kind_of-kind.ensures ∙ c.if-kind-eq-DHCPLEASEACTIVE.true))

pub fill-requires-2 : goal.fill-requires-2
fill-requires-2 c = reply_long c.args.p.now c.requires

pub returns : goal.returns
returns c =
    c.fill-2.ensures ∙ rw (c.no_addresses-listed.ensures, c.kind_of-kind.ensures) (tells_other c.args.p.now (λ z. c.if-kind-eq-DHCPLEASEACTIVE.false (c.kind_of-kind.ensures ∙ z)))
