use Rattle.std.proofs.Common.{sym, ◌∙◌}
use Rattle.deskreply.proofs.ReadingLaws.{malformed, other_xid, same_xid}
use Rattle.deskreply.proofs.jespurla_lease_reply_read.Goals as goal

pub returns-then-not-is_reply : goal.returns-then-not-is_reply
returns-then-not-is_reply c = c.refused.ensures ∙ malformed _ _ (sym c.if-not-is_reply.ensures)

pub returns-then-u32_at-xid : goal.returns-then-u32_at-xid
returns-then-u32_at-xid c =
    c.refused-then-u32_at-xid.ensures ∙ other_xid c.args.reply.now c.args.xid (sym c.if-not-is_reply.ensures) (λ z. c.if-u32_at-xid.true (c.u32_at.ensures ∙ z))

pub tell-requires : goal.tell-requires
tell-requires c = sym c.if-not-is_reply.ensures

pub returns : goal.returns
returns c = c.tell.ensures ∙ same_xid _ _ (sym c.if-not-is_reply.ensures) (sym c.u32_at.ensures ∙ c.if-u32_at-xid.false)
