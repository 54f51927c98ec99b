-- The laws of what a reply tells and of what the call answers. Assumes nothing.
use Prim.Native.Nat.{ℕ, ◌%◌, ◌≤◌}
use mathlib.Core.Path.{◌≡◌, refl, sym, ap, ◌∙◌}
use mathlib.Core.Bool.{Bool, true, false, cond, ◌&&◌}
use mathlib.Core.List.{List, [], ◌∷◌}
use Rattle.std.specs.Prelude as std
use Rattle.std.specs.Prelude.{is_some, Some, None}
use Rattle.std.specs.Option.{unwrap_or}
use Rattle.clock.specs.declared.Span.{Span}
use Rattle.clock.specs.Clock.{span}
use lib.Dec.{leb, eqb}
use lib.ListN.{length}
use borrow.Author.Tests.{eq-eqb, ne_eqb, leb-true}
use Rattle.octets.proofs.BoolLaws.{and_left, and_right}
use Rattle.leasepacket.specs.Packet.{op, hlen, xid, is_packet}
use Rattle.leasepacket.specs.Options.{values_in, has_options}
use Rattle.leasepacket.specs.ReplyOptions.{Lengths, in_every, in_active, in_kind}
use Rattle.leasepacket.proofs.QueryLaws.{packet_long}
use Rattle.deskreply.specs.Reply.{keeps, keeps_all, kind_of, is_kind, is_reply}
use Rattle.deskreply.specs.Reading.{time_by, addresses_by, tells, refusal, told, reading}
use Rattle.deskreply.specs.Promise.{is_there, time_or_zero, answered}
use Rattle.deskreply.specs.Stages.{has_fields, Short, time_of, addresses_of, filled}
use Rattle.deskreply.proofs.ReplyLaws.{keeps_both}

-- ---- the rule of the addresses
abbrev ruled : Lengths
ruled = record { least = 8; most = 252; unit = 4 }

fifth : (a b c d e : Bool) → (a && (b && (c && (d && (e && true))))) ≡ true → e ≡ true
fifth a b c d e h =
    and_left e true (and_right d (e && true) (and_right c (d && (e && true)) (and_right b (c && (d && (e && true))) (and_right a (b && (c && (d && (e && true)))) h))))

last_rule : (every : Bool) (p : List ℕ) → (every && keeps_all in_active p) ≡ true → keeps false ruled (values_in 92 p) ≡ true
unfolding keeps_all
last_rule every p e = fifth (kept 51 4 4 1) (kept 61 2 64 1) (kept 82 1 64 1) (kept 91 4 4 1) (keeps false ruled (values_in 92 p)) (and_right every (keeps_all in_active p) e)
  where
    kept : ℕ → ℕ → ℕ → ℕ → Bool
    kept code least most unit = keeps false (record { least = least; most = most; unit = unit }) (values_in code p)

ruled_short : (vs : List (List ℕ)) → keeps false ruled vs ≡ true → Short vs
unfolding keeps
ruled_short [] e = tt
ruled_short (v ∷ []) e = leb-true (length v) 252 (and_right (leb 8 (length v)) (leb (length v) 252) (and_left (leb 8 (length v) && leb (length v) 252) (eqb (length v % 4) 0) e))
ruled_short (v ∷ w ∷ vs) e = tt

-- ---- what is known of a well-formed reply
module _ (p : List ℕ) (r : is_reply p ≡ true) where
  fields_and_kind : (has_fields p && is_kind (kind_of p)) ≡ true
  unfolding is_reply
  fields_and_kind = and_left (has_fields p && is_kind (kind_of p)) (keeps_all (in_kind (kind_of p)) p) r

  keeps_rules : keeps_all (in_kind (kind_of p)) p ≡ true
  unfolding is_reply
  keeps_rules = and_right (has_fields p && is_kind (kind_of p)) (keeps_all (in_kind (kind_of p)) p) r

  pub reply_long : 240 ≤ length p
  reply_long =
      let a = is_packet p in
      let b = has_options p in
      let c = eqb (op p) 2 in
      let d = leb (hlen p) 16 in
      let f : has_fields p ≡ true = and_left (has_fields p) (is_kind (kind_of p)) fields_and_kind in
      packet_long p (and_left a b (and_left (a && b) c (and_left (a && b && c) d f)))

  pub addresses_short : kind_of p ≡ 13 → Short (values_in 92 p)
  addresses_short k =
      let active : keeps_all (in_kind 13) p ≡ true = ap (λ (n : ℕ). keeps_all (in_kind n) p) (sym k) ∙ keeps_rules in
      ruled_short (values_in 92 p) (last_rule (keeps_all in_every p) p (sym (keeps_both in_every in_active p) ∙ active))

-- ---- a time, as it is told
there_is : (t : std.Option Span) → cond (is_some t) 1 0 ≡ is_there (time_of t)
there_is None = refl
there_is (Some s) = refl

time_is : (t : std.Option Span) → unwrap_or t (span 0) ≡ time_or_zero (time_of t)
time_is None = refl
time_is (Some s) = refl

-- ---- what it tells, by its kind
module _ (p : List ℕ) where
  pub tells_active : (left since : std.Option Span) → time_of left ≡ time_by (values_in 51 p) → time_of since ≡ time_by (values_in 91 p) → kind_of p ≡ 13 → filled p (kind_of p) left since (addresses_of (addresses_by (values_in 92 p))) ≡ answered (told (tells p))
  unfolding tells
  tells_active left since l s k = rw (there_is left, time_is left, there_is since, time_is since, l, s) (simp (eq-eqb _ _ k) refl)

  pub tells_other : (kind_of p ≡ 13 → ⊥) → filled p (kind_of p) None None (addresses_of []) ≡ answered (told (tells p))
  unfolding tells
  tells_other k = simp (ne_eqb _ _ k) refl

  -- ---- what the call answers
  pub malformed : (wanted : ℕ) → is_reply p ≡ false → answered (refusal 20) ≡ answered (reading wanted p)
  unfolding reading
  malformed wanted e = simp e refl

  module _ (wanted : ℕ) (r : is_reply p ≡ true) where
    pub other_xid : (xid p ≡ wanted → ⊥) → answered (refusal 21) ≡ answered (reading wanted p)
    unfolding reading
    other_xid e = simp (r, ne_eqb _ _ e) refl

    pub same_xid : xid p ≡ wanted → answered (told (tells p)) ≡ answered (reading wanted p)
    unfolding reading
    same_xid e = simp (r, eq-eqb _ _ e) refl
