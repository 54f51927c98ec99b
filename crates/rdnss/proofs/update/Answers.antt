use Rattle.std.proofs.Common.{◌∙◌}
use Rattle.entries.specs.Entries.{unexpired}
use Rattle.entries.proofs.PackLaws.{of_rest, of_held, in_places}
use Rattle.entries.proofs.FormLaws.{unexpired_fits}
use Rattle.serverlist.specs.Servers.{servers, held}
use Rattle.serverlist.specs.Places.{server_places}
use Rattle.serverlist.proofs.ServerLaws.{sound_count, at_clock_fits}
use Rattle.rdnss.proofs.CallLaws.{none_applies, area_whole}
use Rattle.rdnss.proofs.update.Goals as goal

pub apply_all-requires : goal.apply_all-requires
apply_all-requires c =
    let l = c.args.list.now in
    let t = c.args.arrival.clock in
    let k = none_applies _ _ _ _ c.in_ok-check.ensures in
    let n = sound_count l k.sound in
    (in_places server_places t (unexpired servers t (held l)) (c.without_expired.ensures ∙ at_clock_fits l t n) (unexpired_fits servers server_places l t n), area_whole c.args.area.now k.whole)

pub returns : goal.returns
returns c =
    let l = c.args.list.now in
    let t = c.args.arrival.clock in
    let k = none_applies _ _ _ _ c.in_ok-check.ensures in
    let u = unexpired servers t (held l) in
    let h = c.without_expired.ensures ∙ at_clock_fits l t (sound_count l k.sound) in
    (c.in_ok-check.ensures, c.apply_all.ensures.applied ∙ rw (of_rest server_places t u h, of_held server_places t u h))
