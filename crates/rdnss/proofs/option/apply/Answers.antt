use Rattle.std.proofs.Common.{List, map, false, ap, sym, ◌∙◌}
use mathlib.Core.List.{foldl}
use Rattle.entries.specs.Entries.{removed, named_all}
use Rattle.entries.specs.declared.Moments.{Moments}
use Rattle.serverlist.specs.Servers.{servers, held, packed}
use Rattle.serverlist.specs.declared.Address6.{Address6}
use Rattle.rdnss.specs.Area.{named_by}
use Rattle.rdnss.specs.Options.{moments_of}
use Rattle.rdnss.specs.Places.{address}
use Rattle.rdnss.proofs.CallLaws.{withdraws, renames}
use Rattle.rdnss.proofs.option.apply.Goals as goal

pub returns-then-withdraws : goal.returns-then-withdraws
returns-then-withdraws c =
    let s = c.args in
    let l = s.l.now in
    c.withdraw.ensures
    ∙ ap (λ (a : List Address6). packed l.clock (foldl (λ h a. removed servers a h) (held l) a)) c.named_by-addresses.ensures
    ∙ ap (packed l.clock) (sym (withdraws s.arrival.clock s.arrival.router servers named_by (held l) s.option.now (sym c.withdraws.ensures ∙ c.if-withdraws.true)))

pub returns-else-withdraws : goal.returns-else-withdraws
returns-else-withdraws c =
    let s = c.args in
    let l = s.l.now in
    c.name.ensures
    ∙ ap (λ (x : Moments). packed l.clock (named_all servers false x (map address c.named_by-addresses.result.now) (held l))) c.moments.ensures
    ∙ ap (λ (a : List Address6). packed l.clock (named_all servers false (moments_of s.arrival.clock s.arrival.router s.option.now) a (held l))) c.named_by-addresses.ensures
    ∙ ap (packed l.clock) (sym (renames s.arrival.clock s.arrival.router servers named_by (held l) s.option.now (sym c.withdraws.ensures ∙ c.if-withdraws.false)))
