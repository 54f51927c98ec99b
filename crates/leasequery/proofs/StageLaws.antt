-- The laws of what the functions below the exported call hand on. Assumes nothing.
use Prim.Native.Nat.{ℕ, ◌≤◌, ◌<◌}
use mathlib.Core.Path.{◌≡◌, refl, ap, ◌∙◌}
use mathlib.Core.List.{List, []}
use mathlib.Core.Bool.{Bool, true, false}
use lib.ListN.{length, replicate}
use borrow.Author.Tests.{lt-ltb, le-ltb}
use Rattle.std.specs.Prelude.{Some, None, Result}
use Rattle.clock.specs.declared.Moment.{Moment}
use Rattle.clock.specs.Clock.{is_moment}
use Rattle.octets.specs.Write.{laid}
use Rattle.lease.specs.Lease.{active_at}
use Rattle.leasepacket.specs.declared.query.Query.{Query}
use Rattle.leasepacket.specs.declared.query.Refusal.{Refusal}
use Rattle.leasepacket.specs.Query.{first_of}
use Rattle.leasepacket.specs.Reading.{reading, asked}
use Rattle.leasepacket.proofs.ReadingLaws.{read_asks}
use Rattle.lease.specs.declared.Lease.{Lease}
use Rattle.lease.specs.declared.Rank.{Rank}
use Rattle.leasetable.specs.Folds.{found}
use Rattle.leasetable.specs.declared.look.Found.TheVariants.{OfAddress}
use Rattle.leasequery.specs.Stages.{padded, asked_at, other_of, active_of, concluded}

-- ---- octets with zeros behind them
pub padded_over : (o : List ℕ) → 64 < length o → replicate 64 0 ≡ padded o
unfolding padded
padded_over o h = rw (lt-ltb 64 (length o) h)

pub padded_laid : (o : List ℕ) → length o ≤ 64 → padded o ≡ laid o (replicate 64 0)
unfolding padded
padded_laid o h = rw (le-ltb 64 (length o) h)

-- ---- what is asked where only the packet can be refused, by what was read of it
pub asked_read : (clock : Moment) (ok : Bool) (query : List ℕ) (room : ℕ) {r : Result Query Refusal} → r ≡ reading query → is_moment clock ≡ true → ok ≡ true → 648 ≤ room → asked query r ≡ asked_at clock ok query room
unfolding asked_at first_of
asked_read clock ok query room e m k h = ap (asked query) e ∙ read_asks query ∙ rw (m, k, le-ltb room 648 h)

-- ---- the conclusion, by each way out of it
module _ (clock : Moment) (server : ℕ) (query buffer : List ℕ) where
  module _ (kept : ℕ) (ranks : List Rank) where
    -- of a client
    pub con_unknown : concluded clock (found kept ranks None) server query buffer ≡ other_of 12 server query buffer
    unfolding concluded
    con_unknown = refl

    pub con_client : (x : Lease) → concluded clock (found kept ranks (Some x)) server query buffer ≡ active_of clock x kept ranks server query buffer
    unfolding concluded
    con_client x = refl

    -- of an address
    pub con_nobody : concluded clock (OfAddress None kept ranks) server query buffer ≡ other_of 12 server query buffer
    unfolding concluded
    con_nobody = refl

    pub con_active : (x : Lease) → active_at clock x ≡ true → concluded clock (OfAddress (Some x) kept ranks) server query buffer ≡ active_of clock x 0 [] server query buffer
    unfolding concluded
    con_active x a = rw a refl

    pub con_unassigned : (x : Lease) → active_at clock x ≡ false → concluded clock (OfAddress (Some x) kept ranks) server query buffer ≡ other_of 11 server query buffer
    unfolding concluded
    con_unassigned x a = rw a refl
