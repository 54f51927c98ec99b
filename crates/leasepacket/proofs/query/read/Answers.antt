use Rattle.std.proofs.Common.{sym, ◌∙◌}
use Rattle.std.proofs.lemmas.Result.{err_from_is_err_and}
use Rattle.leasepacket.proofs.QueryLaws.{packet_long}
use Rattle.leasepacket.proofs.ReadingLaws.{refuses_1, refuses_2, past_2, refuses_3, refuses_list, past_3, refuses_4, past_4, refuses_5, past_5}
use Rattle.leasepacket.proofs.query.read.Goals as goal

pub returns-then-not-is_packet : goal.returns-then-not-is_packet
returns-then-not-is_packet c = refuses_1 _ (sym c.if-not-is_packet.ensures)

pub returns-then-octet_at-ne-BOOTREQUEST : goal.returns-then-octet_at-ne-BOOTREQUEST
returns-then-octet_at-ne-BOOTREQUEST c =
    refuses_2 _ (sym c.if-not-is_packet.ensures) (λ z. c.if-octet_at-ne-BOOTREQUEST.true (c.octet_at.ensures ∙ z))

pub returns-in_err-kind : goal.returns-in_err-kind
returns-in_err-kind c =
    let s = past_2 _ (sym c.if-not-is_packet.ensures) (sym c.octet_at.ensures ∙ c.if-octet_at-ne-BOOTREQUEST.false) in
    let r = err_from_is_err_and c.from_residual.result c.from_residual.ensures.1 in
    rw (r.1, r.2) (refuses_3 _ s c.in_err-kind.ensures)

pub returns-then-not-does_list_fit : goal.returns-then-not-does_list_fit
returns-then-not-does_list_fit c =
    let s = past_2 _ (sym c.if-not-is_packet.ensures) (sym c.octet_at.ensures ∙ c.if-octet_at-ne-BOOTREQUEST.false) in
    refuses_list _ s c.in_ok-kind.ensures.0 (sym c.if-not-does_list_fit.ensures)

pub returns-then-not-is_lease_query : goal.returns-then-not-is_lease_query
returns-then-not-is_lease_query c =
    let s = past_2 _ (sym c.if-not-is_packet.ensures) (sym c.octet_at.ensures ∙ c.if-octet_at-ne-BOOTREQUEST.false) in
    let t = past_3 _ s c.in_ok-kind.ensures.0 (sym c.if-not-does_list_fit.ensures) in
    refuses_4 _ t (sym c.if-not-is_lease_query.ensures)

pub returns-then-u32_at-eq0 : goal.returns-then-u32_at-eq0
returns-then-u32_at-eq0 c =
    let s = past_2 _ (sym c.if-not-is_packet.ensures) (sym c.octet_at.ensures ∙ c.if-octet_at-ne-BOOTREQUEST.false) in
    let t = past_3 _ s c.in_ok-kind.ensures.0 (sym c.if-not-does_list_fit.ensures) in
    refuses_5 _ (past_4 _ t (sym c.if-not-is_lease_query.ensures)) (sym c.u32_at.ensures ∙ c.if-u32_at-eq0.true)

pub by_key-requires : goal.by_key-requires
by_key-requires c =
    let e = sym c.if-not-is_packet.ensures in
    let s = past_2 _ e (sym c.octet_at.ensures ∙ c.if-octet_at-ne-BOOTREQUEST.false) in
    let w = c.in_ok-kind.ensures in
    let t = past_3 _ s w.0 (sym c.if-not-does_list_fit.ensures) in
    record {
      long = packet_long _ e;
      past = past_5 _ (past_4 _ t (sym c.if-not-is_lease_query.ensures)) (λ z. c.if-u32_at-eq0.false (c.u32_at.ensures ∙ z));
      ids = w.2;
      stands = w.3;
    }
