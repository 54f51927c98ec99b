use Rattle.std.proofs.Common.{◌≡◌, ◌-◌, ap, ◌∙◌, arith}
use Rattle.entries.specs.Entries.{expires}
use Rattle.entries.proofs.PlaceLaws.{get_d_any}
use Rattle.entries.proofs.ChainLaws.{foremost_last, foremost_more}
use Rattle.serverlist.specs.Servers.{servers, blank}
use Rattle.serverlist.proofs.eviction.evict_place.Goals as goal

pub loop-at-init : goal.loop-at-init
loop-at-init c =
    let l = c.args.l.now.entries in
    foremost_last servers l blank 7 _ (omega arith) (c.expires.ensures ∙ ap (expires servers) (get_d_any l 7 _ blank (omega arith)))

pub loop-at-preserved : goal.loop-at-preserved
loop-at-preserved c =
    let l = c.args.l.now.entries in
    let i = c.loop-at.at in
    rw c.earlier_of-c.ensures
    (foremost_more servers l blank i _ (omega arith) (omega arith) (c.expires-in-loop-at.ensures ∙ ap (expires servers) (get_d_any l (i - 1) _ blank (omega arith))) c.loop-at.invariant)

pub returns : goal.returns
returns c =
    let z : c.loop-at.at ≡ 0 = omega arith in
    let p = rw z at c.loop-at.invariant.place in
    omega (arith, p)
