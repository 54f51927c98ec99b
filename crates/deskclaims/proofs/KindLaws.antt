-- What the desk reads of the replies that the box writes, by their kind. Assumes nothing.
use Prim.Native.Nat.{ℕ, zero, suc, ◌*◌, ◌/◌, ◌%◌, ◌≤◌, ◌<◌}
use mathlib.Core.Path.{◌≡◌, refl, ap, ◌∙◌}
use mathlib.Core.Bool.{Bool, true, false, cond}
use mathlib.Core.List.{List, [], ◌∷◌, ◌++◌, append-nil}
use mathlib.Core.Logic.{inl, inr}
use mathlib.Core.Option.{none, some}
use native.Mathlib.Omega.{arith}
use native.Mathlib.Nat.{mul-div_cancel_left, mul-mod_right}
use borrow.Table.Steps.{cases}
use borrow.Author.Tests.{eqb-true, eqb-false, eq-eqb, le-leb}
use lib.Dec.{leb, eqb, lit<}
use lib.ListN.{length, take, drop, length-append}
use lib.Seq.{length-take-le}
use Rattle.clock.specs.declared.Moment.{Moment}
use Rattle.clock.specs.declared.Span.{Span}
use Rattle.clock.specs.Clock.{span, is_never, seconds_left, seconds_since}
use Rattle.octets.specs.Number.{big_endian}
use Rattle.octets.proofs.NumberLaws.{length_big_endian, number_append, number_big_endian}
use Rattle.lease.specs.declared.Lease.{Lease}
use Rattle.leasepacket.specs.Packet.{part, htype, hlen, xid, chaddr}
use Rattle.leasepacket.specs.Options.{Opt, values, values_in}
use Rattle.leasepacket.specs.Grammar.{Code}
use Rattle.leasepacket.specs.Layout.{encoded}
use Rattle.leasepacket.specs.Requested.{is_requested}
use Rattle.leasepacket.specs.ReplyOptions.{Lengths, in_every, in_kind, sent_by}
use Rattle.leasepacket.proofs.QueryLaws.{part_length}
use Rattle.leasepacket.proofs.SentLaws.{Codes, only, only_some, sent_codes, under, sent_values}
use Rattle.leasereply.specs.Reply.{fixed, options_of, of_server, of_lease, flat, other_reply, active_reply}
use Rattle.leasereply.proofs.ReplyLaws.{flat_length, other_short, active_short}
use Rattle.deskreply.specs.Reply.{keeps, is_kind}
use Rattle.deskreply.specs.Reading.{numbers, time_by, addresses_by, told, reading}
use Rattle.deskclaims.specs.Asks.{Address}
use Rattle.deskclaims.specs.RoundTrip.{Typed, time_for, from_query, from_lease}
use Rattle.deskclaims.specs.Listed.{OnlyIfListed}
use Rattle.deskclaims.proofs.ReplyLaws.{number_of, kept, Sound, reply_of, its_values, well_formed_lem, taken, tells_all}

code : (c : ℕ) → (c ≡ 0 → ⊥) → (c ≡ 255 → ⊥) → Code c
code c a b = record { not_padding = a; not_end = b }

code_53 : Code 53
code_53 = code 53 (λ z. omega (arith, z)) (λ z. omega (arith, z))

code_54 : Code 54
code_54 = code 54 (λ z. omega (arith, z)) (λ z. omega (arith, z))

-- ---- an option whose value has a length that its rule gives keeps the rule, sent or not
module _ (lengths : Lengths) (v : List ℕ) where
  abbrev Fits : Type 0
  Fits = (lengths.least ≤ length v) × (length v ≤ lengths.most) × (length v % lengths.unit ≡ 0)

  there_kept : (always : Bool) → 0 < length v → Fits → keeps always lengths (only v) ≡ true
  unfolding keeps
  there_kept always h f =
      ap (keeps always lengths) (only_some v h)
      ∙ rw (le-leb lengths.least (length v) f.0, le-leb (length v) lengths.most f.1, eq-eqb (length v % lengths.unit) 0 f.2)

  sent_kept : (b : Bool) → (0 < length v → Fits) → keeps false lengths (cond b (only v) []) ≡ true
  unfolding keeps
  sent_kept false f = refl
  sent_kept true f = cases (eqb (length v) 0) (λ e. none v (eqb-true (length v) 0 e)) (λ e. let h = eqb-false (length v) 0 e in there_kept false (omega (arith, h)) (f (omega (arith, h))))
    where
      none : (w : List ℕ) → length w ≡ 0 → keeps false lengths (only w) ≡ true
      none [] e = refl
      none (x ∷ xs) e = absurd (omega (arith, e))

few_only : (b : Bool) (v : List ℕ) → leb (length (cond b (only v) [])) 1 ≡ true
few_only false v = refl
few_only true [] = refl
few_only true (x ∷ xs) = refl

-- ---- no lease is active
module _ (kind server : ℕ) (q : List ℕ) (long : 240 ≤ length q) (j : is_kind kind ≡ true) (n : eqb kind 13 ≡ false) where
  abbrev other_options : List Opt
  other_options = sent_by q (of_server kind server) in_every

  abbrev other_of : List ℕ
  other_of = reply_of q (htype q) (hlen q) (part q 12 4) (chaddr q) other_options

  other_is : other_reply kind server q ≡ other_of
  unfolding other_reply options_of
  other_is = rw n refl

  other_sound : Sound q (htype q) (hlen q) (part q 12 4) (chaddr q) other_options
  other_sound =
      let e : length (other_reply kind server q) ≡ length other_of = ap length other_is in
      let f = length-append (fixed q (htype q) (hlen q) (part q 12 4) (chaddr q)) (encoded other_options ++ (255 ∷ [])) in
      let h = other_short kind server q in
      record {
        long = long;
        address_4 = part_length q 12 4 (omega arith);
        hardware_16 = part_length q 28 16 (omega arith);
        codes = sent_codes q (of_server kind server) in_every (code_53, (code_54, tt));
        few = omega (arith, e, f, h);
      }

  kind_other : values 53 other_options ≡ (kind ∷ []) ∷ []
  unfolding under of_server
  kind_other = sent_values q (of_server kind server) 53 in_every

  server_other : values 54 other_options ≡ only (big_endian 4 server)
  unfolding under of_server
  server_other = sent_values q (of_server kind server) 54 in_every ∙ append-nil (only (big_endian 4 server))

  kept_other : kept (in_kind kind) other_options ≡ true
  unfolding kept
  kept_other =
      let l = length_big_endian 4 server in
      rw (n, kind_other, server_other, there_kept (record { least = 4; most = 4; unit = 1 }) (big_endian 4 server) true (omega (arith, l)) (omega (arith, l), omega (arith, l), omega (arith, l))) (unfold keeps in refl)

  none_other : (code : ℕ) → eqb 53 code ≡ false → eqb 54 code ≡ false → values code other_options ≡ []
  unfolding under
  none_other code a b = sent_values q (of_server kind server) code in_every ∙ rw (a, b)

  pub lacks_other : (code : ℕ) → eqb 53 code ≡ false → eqb 54 code ≡ false → values_in code (other_reply kind server q) ≡ []
  lacks_other code a b = ap (values_in code) other_is ∙ its_values q (htype q) (hlen q) (part q 12 4) (chaddr q) other_options other_sound code ∙ none_other code a b

  pub reads_other : hlen q ≤ 16 → reading (xid q) (other_reply kind server q) ≡ told (from_query kind q)
  reads_other h =
      let few : leb (length (values 61 other_options)) 1 ≡ true = rw (none_other 61 refl refl) in
      let r = well_formed_lem q (htype q) (hlen q) (part q 12 4) (chaddr q) other_options other_sound kind kind_other h j few kept_other in
      ap (reading (xid q)) other_is
      ∙ taken q (htype q) (hlen q) (part q 12 4) (chaddr q) other_options other_sound kind kind_other r
      ∙ ap told (tells_all q (htype q) (hlen q) (part q 12 4) (chaddr q) other_options other_sound kind kind_other ∙ rw (n, number_of 4 4 q 12 (omega arith)) refl)

-- ---- a lease is active: its times and addresses
left_small : (expiry clock : Moment) → (seconds_left expiry clock).0 < 4294967296
unfolding seconds_left
left_small expiry clock = cases (is_never expiry) (λ e. rw e (omega arith)) (λ e. rw e (omega arith))

since_small : (last clock : Moment) → (seconds_since last clock).0 < 4294967296
unfolding seconds_since
since_small last clock = omega arith

time_back : (s : Span) → s.0 < 4294967296 → time_by (big_endian 4 s.0 ∷ []) ≡ some s
time_back s h = ap (λ (n : ℕ). some (span n)) (number_big_endian 4 s.0 h)

-- addresses of 32 bits each
abbrev pub AllAddress : List ℕ → Type 0
AllAddress [] = Unit {0}
AllAddress (a ∷ bs) = Address a × AllAddress bs

drop_past : (n : ℕ) (xs ys : List ℕ) → length xs ≡ n → drop n (xs ++ ys) ≡ ys
drop_past zero [] ys e = refl
drop_past zero (x ∷ xs) ys e = absurd (omega arith)
drop_past (suc n) [] ys e = absurd (omega arith)
drop_past (suc n) (x ∷ xs) ys e = drop_past n xs ys (omega arith)

numbers_back : (bs : List ℕ) → AllAddress bs → numbers (length bs) (flat bs) ≡ bs
unfolding numbers flat
numbers_back [] h = refl
numbers_back (a ∷ bs) h =
    let l = length_big_endian 4 a in
    rw (number_append 4 (big_endian 4 a) (flat bs) 0 (omega (arith, l)), number_big_endian 4 a h.0, drop_past 4 (big_endian 4 a) (flat bs) l, numbers_back bs h.1)

addresses_back : (bs : List ℕ) → AllAddress bs → addresses_by (only (flat bs)) ≡ bs
unfolding flat
addresses_back [] h = refl
addresses_back (a ∷ bs) h =
    let l : length (flat (a ∷ bs)) ≡ 4 * length (a ∷ bs) = flat_length (a ∷ bs) in
    let d : length (flat (a ∷ bs)) / 4 ≡ length (a ∷ bs) = ap (λ (n : ℕ). n / 4) l ∙ mul-div_cancel_left (length (a ∷ bs)) (lit< tt) in
    ap addresses_by (only_some (flat (a ∷ bs)) (omega (arith, l))) ∙ rw d (numbers_back (a ∷ bs) h)

-- ---- a lease is active: the reply about it
take_all : (n : ℕ) (l : List ℕ) → length l ≡ n → take n l ≡ l
take_all zero [] e = refl
take_all zero (x ∷ xs) e = absurd (omega arith)
take_all (suc n) [] e = refl
take_all (suc n) (x ∷ xs) e = ap (λ (l : List ℕ). x ∷ l) (take_all n xs (omega arith))

-- what is known of a record of the table
pub record Formed (x : Lease) : Type 0 where
  pub typed : Typed x
  pub hlen : x.hlen ≤ 16
  pub idlen : x.idlen ≤ 64
  pub not_1 : x.idlen ≡ 1 → ⊥
  pub relaylen : x.relaylen ≤ 64

-- and of the addresses that are given with it: none, or 2 to 63
pub record Given (bs : List ℕ) : Type 0 where
  pub small : AllAddress bs
  pub not_1 : length bs ≡ 1 → ⊥
  pub most : length bs ≤ 63

module _ (clock : Moment) (server : ℕ) (q : List ℕ) (x : Lease) (bs : List ℕ) (long : 240 ≤ length q) (f : Formed x) (g : Given bs) where
  abbrev said : ℕ → List ℕ
  said = of_lease clock server x bs

  abbrev active_options : List Opt
  active_options = sent_by q said (in_kind 13)

  abbrev active_of : List ℕ
  active_of = reply_of q x.htype x.hlen (big_endian 4 x.address) x.chaddr active_options

  active_is : active_reply clock server q x bs ≡ active_of
  unfolding active_reply options_of
  active_is = rw (take_all 16 x.chaddr f.typed.chaddr) refl

  -- the values of each code
  abbrev sent : ℕ → List (List ℕ)
  sent code = cond (is_requested q code) (only (said code)) []

  values_53 : values 53 active_options ≡ (13 ∷ []) ∷ []
  unfolding under of_lease of_server
  values_53 = sent_values q said 53 (in_kind 13)

  values_54 : values 54 active_options ≡ only (big_endian 4 server)
  unfolding under of_lease of_server
  values_54 = sent_values q said 54 (in_kind 13) ∙ append-nil (only (big_endian 4 server))

  values_51 : values 51 active_options ≡ sent 51
  unfolding under
  values_51 = sent_values q said 51 (in_kind 13) ∙ append-nil (sent 51)

  values_61 : values 61 active_options ≡ sent 61
  unfolding under
  values_61 = sent_values q said 61 (in_kind 13) ∙ append-nil (sent 61)

  values_82 : values 82 active_options ≡ sent 82
  unfolding under
  values_82 = sent_values q said 82 (in_kind 13) ∙ append-nil (sent 82)

  values_91 : values 91 active_options ≡ sent 91
  unfolding under
  values_91 = sent_values q said 91 (in_kind 13) ∙ append-nil (sent 91)

  values_92 : values 92 active_options ≡ only (flat bs)
  unfolding under of_lease
  values_92 = sent_values q said 92 (in_kind 13) ∙ append-nil (only (flat bs))

  -- each keeps its rule
  ids_length : length (take x.idlen x.id) ≡ x.idlen
  ids_length = length-take-le x.idlen x.id (omega (arith, f.idlen, f.typed.id))

  relays_length : length (take x.relaylen x.relay) ≡ x.relaylen
  relays_length = length-take-le x.relaylen x.relay (omega (arith, f.relaylen, f.typed.relay))

  abbrev four : Lengths
  four = record { least = 4; most = 4; unit = 1 }

  rule_54 : keeps true four (only (big_endian 4 server)) ≡ true
  rule_54 = let l = length_big_endian 4 server in there_kept four (big_endian 4 server) true (omega (arith, l)) (omega (arith, l), omega (arith, l), omega (arith, l))

  time_kept : (code v : ℕ) → said code ≡ big_endian 4 v → keeps false four (sent code) ≡ true
  time_kept code v e = let l = length_big_endian 4 v in rw e (sent_kept four (big_endian 4 v) (is_requested q code) (λ h. (omega (arith, l), omega (arith, l), omega (arith, l))))

  rule_51 : keeps false four (sent 51) ≡ true
  unfolding of_lease
  rule_51 = time_kept 51 (seconds_left x.expiry clock).0 refl

  rule_91 : keeps false four (sent 91) ≡ true
  unfolding of_lease
  rule_91 = time_kept 91 (seconds_since x.last clock).0 refl

  rule_61 : keeps false (record { least = 2; most = 64; unit = 1 }) (sent 61) ≡ true
  unfolding of_lease
  rule_61 = sent_kept _ (take x.idlen x.id) (is_requested q 61) (λ h. (not_one h, omega (arith, ids_length, f.idlen), omega arith))
    where
      not_one : 0 < length (take x.idlen x.id) → 2 ≤ length (take x.idlen x.id)
      not_one h = cases (eqb x.idlen 1) (λ e. absurd (f.not_1 (eqb-true x.idlen 1 e))) (λ e. let z = eqb-false x.idlen 1 e in omega (arith, h, ids_length, z))

  rule_82 : keeps false (record { least = 1; most = 64; unit = 1 }) (sent 82) ≡ true
  unfolding of_lease
  rule_82 = sent_kept _ (take x.relaylen x.relay) (is_requested q 82) (λ h. (omega (arith, h), omega (arith, relays_length, f.relaylen), omega arith))

  rule_92 : keeps false (record { least = 8; most = 252; unit = 4 }) (only (flat bs)) ≡ true
  rule_92 =
      let l : length (flat bs) ≡ 4 * length bs = flat_length bs in
      sent_kept _ (flat bs) true (λ h. (least l h, omega (arith, l, g.most), ap (λ (n : ℕ). n % 4) l ∙ mul-mod_right 4 (length bs)))
    where
      least : length (flat bs) ≡ 4 * length bs → 0 < length (flat bs) → 8 ≤ length (flat bs)
      least l h = cases (eqb (length bs) 1) (λ e. absurd (g.not_1 (eqb-true (length bs) 1 e))) (λ e. let z = eqb-false (length bs) 1 e in omega (arith, l, h, z))

  kept_active : kept (in_kind 13) active_options ≡ true
  unfolding kept
  kept_active = rw (values_53, values_54, values_51, values_61, values_82, values_91, values_92, rule_54, rule_51, rule_61, rule_82, rule_91, rule_92) (unfold keeps in refl)

  active_codes : Codes active_options
  active_codes =
      sent_codes q said (in_kind 13)
      (code_53, (code_54, (code 51 (λ z. omega (arith, z)) (λ z. omega (arith, z)), (code 61 (λ z. omega (arith, z)) (λ z. omega (arith, z)), (code 82 (λ z. omega (arith, z)) (λ z. omega (arith, z)), (code 91 (λ z. omega (arith, z)) (λ z. omega (arith, z)), (code 92 (λ z. omega (arith, z)) (λ z. omega (arith, z)), tt)))))))

  active_sound : Sound q x.htype x.hlen (big_endian 4 x.address) x.chaddr active_options
  active_sound =
      let e : length (active_reply clock server q x bs) ≡ length active_of = ap length active_is in
      let l = length-append (fixed q x.htype x.hlen (big_endian 4 x.address) x.chaddr) (encoded active_options ++ (255 ∷ [])) in
      let h = active_short clock server q x bs (omega (arith, ids_length, f.idlen)) (omega (arith, relays_length, f.relaylen)) g.most in
      record {
        long = long;
        address_4 = length_big_endian 4 x.address;
        hardware_16 = f.typed.chaddr;
        codes = active_codes;
        few = omega (arith, e, l, h);
      }

  -- the times
  time_sent : (code : ℕ) (s : Span) → said code ≡ big_endian 4 s.0 → s.0 < 4294967296 → time_by (sent code) ≡ time_for q code s
  time_sent code s e h = rw e (go (is_requested q code))
    where
      go : (b : Bool) → time_by (cond b (only (big_endian 4 s.0)) []) ≡ cond b (some s) none
      go true = let l = length_big_endian 4 s.0 in ap time_by (only_some (big_endian 4 s.0) (omega (arith, l))) ∙ time_back s h
      go false = refl

  left_sent : time_by (sent 51) ≡ time_for q 51 (seconds_left x.expiry clock)
  unfolding of_lease
  left_sent = time_sent 51 (seconds_left x.expiry clock) refl (left_small x.expiry clock)

  since_sent : time_by (sent 91) ≡ time_for q 91 (seconds_since x.last clock)
  unfolding of_lease
  since_sent = time_sent 91 (seconds_since x.last clock) refl (since_small x.last clock)

  pub reads_active : reading (xid q) (active_reply clock server q x bs) ≡ told (from_lease clock q x bs)
  reads_active =
      let r = well_formed_lem q x.htype x.hlen (big_endian 4 x.address) x.chaddr active_options active_sound 13 values_53 f.hlen refl (rw values_61 (few_only (is_requested q 61) (said 61))) kept_active in
      ap (reading (xid q)) active_is
      ∙ taken q x.htype x.hlen (big_endian 4 x.address) x.chaddr active_options active_sound 13 values_53 r
      ∙ ap told (tells_all q x.htype x.hlen (big_endian 4 x.address) x.chaddr active_options active_sound 13 values_53
      ∙ rw (number_big_endian 4 x.address f.typed.address, values_51, values_91, values_92, left_sent, since_sent, addresses_back bs g.small) refl)

  -- what stands under the codes that go out only if they are listed: what was asked for, and nothing else
  stands : (code : ℕ) → values code active_options ≡ sent code → values_in code (active_reply clock server q x bs) ≡ sent code
  stands code e = ap (values_in code) active_is ∙ its_values q x.htype x.hlen (big_endian 4 x.address) x.chaddr active_options active_sound code ∙ e

  pub stands_all : (code : ℕ) → OnlyIfListed code → values_in code (active_reply clock server q x bs) ≡ sent code
  stands_all code (inl e) = rw e (stands 51 values_51)
  stands_all code (inr (inl e)) = rw e (stands 61 values_61)
  stands_all code (inr (inr (inl e))) = rw e (stands 82 values_82)
  stands_all code (inr (inr (inr e))) = rw e (stands 91 values_91)
