use Rattle.std.proofs.Common.{◌≤◌, ◌+◌, Bool, List, length, take, sym, ap, ◌∙◌, arith}
use Rattle.std.specs.Prelude.{not}
use lib.Seq.{length-take-le, take_all}
use Rattle.entries.specs.Entries.{keep, is_expired, unexpired}
use Rattle.entries.proofs.EntryLaws.{keep_length, keep_yes, keep_no, keep_nil}
use Rattle.entries.proofs.PlaceLaws.{take_most}
use Rattle.entries.proofs.PackLaws.{push_packed}
use Rattle.serverlist.specs.Servers.{servers, packed}
use Rattle.serverlist.specs.Places.{server_places}
use Rattle.serverlist.specs.declared.Server.{Server}
use Rattle.serverlist.proofs.expiry.filtered.Goals as goal
use Rattle.serverlist.proofs.expiry.filtered.Goals.{then-not-is_expired, else-not-is_expired}

pub loop-e-init : goal.loop-e-init
loop-e-init c =
    let n = keep_nil (λ (e : Server). not (is_expired servers c.args.clock e)) in
    record {
      holds = c.held-e-items.ensures;
      eight = rw c.held-e-items.ensures (omega (arith, take_most c.args.l.now.count 8 c.args.l.now.entries (omega arith)));
      packs = c.empty-out.ensures ∙ ap (packed c.args.clock) (sym n);
      short = omega (arith, ap length n);
    }

pub loop-e-preserved : goal.loop-e-preserved
loop-e-preserved c =
    let l = c.loop-e in
    let h = l.invariant in
    let x = c.held-e-items.result.now in
    let p : Server → Bool = λ e. not (is_expired servers c.args.clock e) in
    let s : length (unexpired servers c.args.clock (take (l.e-index + 1) x)) ≤ l.e-index + 1 = omega (arith, keep_length p (take (l.e-index + 1) x), length-take-le (l.e-index + 1) x (omega arith)) in
    elim c.if-not-is_expired.branch [
      | then-not-is_expired w ↦
          let k = keep_yes p x l.e-index _ (omega arith) (ap not (sym c.is_expired.ensures ∙ w.if-not-is_expired.true)) in
          record {
            holds = h.holds;
            eight = h.eight;
            packs = w.out-is ∙ push_packed server_places c.args.clock (keep p (take l.e-index x)) l.out _ h.packs (omega (arith, h.short)) ∙ ap (packed c.args.clock) (sym k);
            short = s;
          }
      | else-not-is_expired w ↦
          let k = keep_no p x l.e-index _ (omega arith) (ap not (sym c.is_expired.ensures ∙ w.if-not-is_expired.false)) in
          record {
            holds = h.holds;
            eight = h.eight;
            packs = w.out-is ∙ h.packs ∙ ap (packed c.args.clock) (sym k);
            short = s;
          }
    ]

pub returns : goal.returns
returns c =
    let h = c.loop-e.invariant in
    h.packs ∙ ap (λ (x : List Server). packed c.args.clock (unexpired servers c.args.clock x)) (take_all c.loop-e.e-index c.held-e-items.result.now (omega arith) ∙ h.holds)
