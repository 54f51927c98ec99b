use Rattle.std.proofs.Common.{List, sym, ap, ◌∙◌, arith}
use mathlib.Core.List.{foldl}
use Rattle.entries.proofs.PackLaws.{of_rest, of_held, in_places, held_length}
use Rattle.serverlist.specs.Servers.{servers, held}
use Rattle.serverlist.specs.Places.{server_places}
use Rattle.serverlist.specs.declared.Server.{Server}
use Rattle.rdnss.specs.Area.{options, named_by}
use Rattle.rdnss.specs.Options.{option_applied}
use Rattle.rdnss.proofs.CallLaws.{option_fits}
use Rattle.rdnss.proofs.area.apply_all.Goals as goal

pub loop-option-preserved : goal.loop-option-preserved
loop-option-preserved c =
    let s = c.args.arrival in
    let l = c.loop-option in
    let h = l.invariant in
    let e = c.in-Some.ensures in
    let v = c.in-Some.option.now in
    let d = option_applied s.clock s.router servers named_by (held l.l) v in
    record {
      whole = sym e.whole ∙ h.whole;
      list = in_places server_places l.l.clock d c.apply.ensures (option_fits s.clock s.router servers named_by (held l.l) v (omega (arith, held_length server_places h.list, h.list.within)));
      clock = of_rest server_places l.l.clock d c.apply.ensures ∙ h.clock;
      left = h.left ∙ ap (foldl (option_applied s.clock s.router servers named_by) (held l.l)) e.options
          ∙ ap (λ (x : List Server). foldl (option_applied s.clock s.router servers named_by) x (options 0 c.in-Some.behind.now)) (sym (of_held server_places l.l.clock d c.apply.ensures));
    }

pub returns : goal.returns
returns c =
    let l = c.loop-option in
    let h = l.invariant in
    let e = c.in_default.ensures.none h.whole in
    record { applied = h.list.packs ∙ rw (h.clock, h.left, e) }
