use Rattle.std.proofs.Common.{◌≡◌, false, sym, ap, ◌∙◌}
use borrow.Author.Tests.{le-leb}
use Rattle.entries.specs.Entries.{one_of, is_expired}
use Rattle.entries.proofs.ChainLaws.{keep_all}
use Rattle.entries.proofs.LibraryLaws.{any_one}
use Rattle.serverlist.specs.Servers.{servers, held, packed}
use Rattle.serverlist.proofs.expiry.without_expired.Goals as goal

pub returns-else-is_any_expired : goal.returns-else-is_any_expired
returns-else-is_any_expired c =
    let a = c.args in
    let l = a.l.now in
    let none : one_of (is_expired servers a.clock) (held l) ≡ false = cc (any_one (is_expired servers a.clock) (held l)) in
    rw (le-leb l.count 8 c.if-l-gt-PLACES.false) (c.set_clock.ensures ∙ ap (packed a.clock) (sym (keep_all (is_expired servers a.clock) (held l) none)))
