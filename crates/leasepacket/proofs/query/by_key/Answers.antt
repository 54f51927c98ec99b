use Rattle.std.proofs.Common.{ℕ, Ok, sym, ◌∙◌, ap, subst}
use Rattle.leasepacket.specs.declared.query.Query.TheVariants.{ByAddress}
use Rattle.leasepacket.specs.Places.{Passed}
use Rattle.leasepacket.proofs.ReadingLaws.{keys_counted, refuses_6, passed_6, hardware_alone, address_read, short_id, id_read}
use Rattle.leasepacket.proofs.query.by_key.Goals as goal

pub returns-then-count_keys-ne1 : goal.returns-then-count_keys-ne1
returns-then-count_keys-ne1 c =
    let k = keys_counted _ _ c.requires c.u32_at-address.ensures c.has_hardware_key-hardware.ensures c.count_keys.ensures in
    refuses_6 _ _ c.requires (λ z. c.if-count_keys-ne1.true (k ∙ z))

pub by_hardware-requires : goal.by_hardware-requires
by_hardware-requires c =
    let k = keys_counted _ _ c.requires c.u32_at-address.ensures c.has_hardware_key-hardware.ensures c.count_keys.ensures in
    let h = sym c.if-hardware.ensures in
    (hardware_alone _ _ c.requires h (sym k ∙ c.if-count_keys-ne1.false), h)

pub returns-in_default : goal.returns-in_default
returns-in_default c =
    let k = keys_counted _ _ c.requires c.u32_at-address.ensures c.has_hardware_key-hardware.ensures c.count_keys.ensures in
    let s = passed_6 _ _ c.requires (sym k ∙ c.if-count_keys-ne1.false) in
    ap (λ (a : ℕ). Ok (ByAddress a)) c.u32_at-address.ensures ∙ address_read _ (subst (Passed 6 c.args.p.now) c.in_default.is s) (sym c.if-hardware.ensures)

pub returns-then-id-lt-SHORTEST_CLIENT_ID : goal.returns-then-id-lt-SHORTEST_CLIENT_ID
returns-then-id-lt-SHORTEST_CLIENT_ID c =
    let k = keys_counted _ _ c.requires c.u32_at-address.ensures c.has_hardware_key-hardware.ensures c.count_keys.ensures in
    let s = passed_6 _ _ c.requires (sym k ∙ c.if-count_keys-ne1.false) in
    short_id _ _ (subst (Passed 6 c.args.p.now) c.in-Some.is s) (sym c.if-hardware.ensures) c.if-id-lt-SHORTEST_CLIENT_ID.true

pub returns : goal.returns
returns c =
    let k = keys_counted _ _ c.requires c.u32_at-address.ensures c.has_hardware_key-hardware.ensures c.count_keys.ensures in
    let s = passed_6 _ _ c.requires (sym k ∙ c.if-count_keys-ne1.false) in
    id_read _ _ (subst (Passed 6 c.args.p.now) c.in-Some.is s) (sym c.if-hardware.ensures) c.if-id-lt-SHORTEST_CLIENT_ID.false
