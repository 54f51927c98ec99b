-- A box sends no option that it was not asked for, and answers a desk's own query in full. Document 02, e). Said of any results that meet the
-- promises of the calls.
use Rattle.std.specs.Prelude.{ℕ, ◌≡◌, [], ◌⊎◌}
use Rattle.leasepacket.specs.Packet.{client_id, lease_time, relay_information, last_transaction_time}
use Rattle.leasepacket.specs.Options.{values, values_in}
use Rattle.leasepacket.specs.ReplyOptions.{held}
use Rattle.leasereply.specs.Reply.{of_lease}
use Rattle.leaseclaims.specs.Claims.{Call}
use Rattle.deskclaims.specs.Asks.{Asking, sent}
use Rattle.deskclaims.specs.RoundTrip.{AllTyped, replied, ReadBack, NotListed, ReadsLease}

-- The options that go out only if they are listed, where the query has a list: 51, 61, 82 and 91.
abbrev pub OnlyIfListed : ℕ → Type 0
OnlyIfListed code = (code ≡ lease_time) ⊎ ((code ≡ client_id) ⊎ ((code ≡ relay_information) ⊎ (code ≡ last_transaction_time)))

-- Where a query listed options and not this one, no reply to it has it, of whatever kind.
abbrev pub SendsOnlyListed : Type 0
SendsOnlyListed = (c : Call) → AllTyped c.table → c.result.refusal ≡ 0 → (code : ℕ) → OnlyIfListed code → NotListed c.query code → values_in code (replied c) ≡ []

-- A reply about an active lease is in full if it has under each of the four codes what there is to say of that lease, and the desk is told both
-- times.
pub record InFull (c : Call) (d : ReadBack c) : Type 0 where
  pub about : ReadsLease c d
  pub sends : (code : ℕ) → OnlyIfListed code → values_in code (replied c) ≡ values code (held code (of_lease c.clock c.server about.lease about.addresses code))
  pub left : d.result.has_left ≡ 1
  pub since : d.result.has_since ≡ 1

-- A desk's query has no list, so that the reply about an active lease is in full.
abbrev pub AnsweredInFull : Type 0
AnsweredInFull = (a : Asking) (c : Call) (d : ReadBack c) → AllTyped c.table → a.result.refusal ≡ 0 → c.query ≡ sent a → c.result.refusal ≡ 0 → c.result.kind ≡ 13 → InFull c d
