-- The laws of what a query asks for. Assumes nothing.
use Prim.Native.Nat.{ℕ, suc, ◌+◌, ◌≤◌, ◌<◌}
use mathlib.Core.Path.{◌≡◌, refl, sym, ap, ◌∙◌}
use mathlib.Core.List.{List, [], ◌∷◌}
use mathlib.Core.Bool.{Bool, true, false, cond, not, ◌&&◌, ◌||◌, and-true, true≢false}
use native.Mathlib.Omega.{arith}
use borrow.Table.Steps.{cases}
use borrow.Author.Tests.{eq-eqb, ne_eqb, eqb-true, ltb-false, leb-true}
use lib.Dec.{eqb, ltb, leb}
use lib.ListN.{length, take, drop, get_or, length-drop}
use lib.Seq.{drop-cons, length-take-le}
use Rattle.std.specs.List.{list_any}
use Rattle.octets.specs.Compare.{same_octets}
use Rattle.octets.specs.Number.{number_at}
use Rattle.octets.proofs.CompareLaws.{same_lengths}
use Rattle.octets.proofs.BoolLaws.{and_left}
use Rattle.leasepacket.specs.Packet.{part, htype, hlen, ciaddr, chaddr, cookie, is_packet}
use Rattle.leasepacket.specs.Options.{values_in}
use Rattle.leasepacket.specs.Query.{any_set, Asked, refused, by_address, by_hardware, by_client_id, has_hardware_key, keys, id_or, key_of, is_short, has_bad_length, refusals, first_of, asking}
use Rattle.leasepacket.specs.Reading.{id_place, read_at, reading}

pub set_any : (s : List ℕ) → any_set s ≡ list_any (λ x. not (eqb x 0)) s
unfolding any_set
set_any [] = refl
set_any (x ∷ xs) = ap (λ (b : Bool). not (eqb x 0) || b) (set_any xs)

-- A place inside the packet has as many octets as it says.
pub part_length : (p : List ℕ) (at n : ℕ) → at + n ≤ length p → length (take n (drop at p)) ≡ n
part_length p at n h = length-take-le n (drop at p) (rw length-drop (omega arith))

-- The first of the refusals that are left applies, or it does not.
module _ (p : List ℕ) where
  pub reads : (a : Asked) → asking p ≡ a → read_at (id_place p) a ≡ reading p
  unfolding reading
  reads a e = sym (ap (read_at (id_place p)) e)

  module _ (n : ℕ) (b : Bool) (rest : List (ℕ × Bool)) (past : asking p ≡ first_of ((n, b) ∷ rest) (key_of p)) where
    pub applies : b ≡ true → read_at (id_place p) (refused n) ≡ reading p
    unfolding first_of
    applies t = reads (refused n) (past ∙ rw t)

    pub passes : b ≡ false → asking p ≡ first_of rest (key_of p)
    unfolding first_of
    passes t = past ∙ rw t

  pub none_left : first_of [] (key_of p) ≡ key_of p
  unfolding first_of
  none_left = refl

  pub begins : asking p ≡ first_of (refusals p) (key_of p)
  unfolding asking
  begins = refl

-- The keys of a packet, by what it has of each kind.
module _ (p : List ℕ) (hw : Bool) (ids : List (List ℕ)) (h : has_hardware_key p ≡ hw) (i : values_in 61 p ≡ ids) where
  pub keys_zero : ciaddr p ≡ 0 → keys p ≡ cond hw 1 0 + length ids
  unfolding keys
  keys_zero a = rw (eq-eqb (ciaddr p) 0 a, h, i) (omega arith)

  pub keys_some : (ciaddr p ≡ 0 → ⊥) → keys p ≡ 1 + cond hw 1 0 + length ids
  unfolding keys
  keys_some a = rw (ne_eqb (ciaddr p) 0 a, h, i)

  pub key_is : key_of p ≡ cond hw (by_hardware (htype p) (hlen p) (chaddr p)) (id_or (by_address (ciaddr p)) ids)
  unfolding key_of
  key_is = rw (h, i)

  pub length_is : has_bad_length p ≡ ((hw && (eqb (hlen p) 0 || ltb 16 (hlen p))) || is_short ids)
  unfolding has_bad_length
  length_is = rw (h, i)

-- A count of keys that is not one gives refusal 6.
pub not_one : (n m : ℕ) → n ≡ m → (m ≡ 1 → ⊥) → not (eqb n 1) ≡ true
not_one n m e k = rw (ne_eqb n 1 (λ z. k (sym e ∙ z)))

pub one : (n m : ℕ) → n ≡ m → m ≡ 1 → not (eqb n 1) ≡ false
one n m e k = rw (eq-eqb n 1 (e ∙ k))

-- A message type of one octet.
module _ (p : List ℕ) (at : ℕ) where
  one_octet : at < length p → take 1 (drop at p) ≡ get_or p at 0 ∷ []
  one_octet h = rw (drop-cons p at 0 h)

  pub type_long : (n : ℕ) → at + n ≤ length p → (n ≡ 1 → ⊥) → same_octets (take n (drop at p)) (10 ∷ []) ≡ false
  type_long n h k = same_lengths (take n (drop at p)) (10 ∷ []) (λ e. k (sym (part_length p at n h) ∙ e))

  pub type_is : (n : ℕ) → n ≡ 1 → at < length p → same_octets (take n (drop at p)) (10 ∷ []) ≡ eqb (get_or p at 0) 10
  unfolding same_octets
  type_is n e h = rw (e, one_octet h) (and-true (eqb (get_or p at 0) 10))

-- A packet has the octets of the fixed fields.
pub packet_long : (p : List ℕ) → is_packet p ≡ true → 240 ≤ length p
unfolding is_packet
packet_long p e =
    let a = leb 240 (length p) in
    let b = leb (length p) 1500 in
    let c = eqb (number_at 4 p 236) (number_at 4 cookie 0) in
    leb-true 240 (length p) (and_left a b (and_left (a && b) c e))

-- ---- what is known of a query that was read: a refusal has a number, and a key comes from a packet of 240 octets or more, a hardware
-- key with a length of at most 16
abbrev pub Sound : List ℕ → Asked → Type 0
Sound p (refused n) = n ≡ 0 → ⊥
Sound p (by_address a) = 240 ≤ length p
Sound p (by_hardware htype hlen octets) = (240 ≤ length p) × (hlen ≤ 16) × (length octets ≡ 16)
Sound p (by_client_id octets) = 240 ≤ length p

-- every refusal has a number; none applies
abbrev pub Numbered : List (ℕ × Bool) → Type 0
Numbered [] = Unit {0}
Numbered (r ∷ rs) = (r.0 ≡ 0 → ⊥) × Numbered rs

abbrev pub NoneApplies : List (ℕ × Bool) → Type 0
NoneApplies [] = Unit {0}
NoneApplies (r ∷ rs) = (r.1 ≡ false) × NoneApplies rs

pub first_sound : (p : List ℕ) (key : Asked) (rs : List (ℕ × Bool)) → Numbered rs → (NoneApplies rs → Sound p key) → Sound p (first_of rs key)
unfolding first_of
first_sound p key [] n k = k tt
first_sound p key (r ∷ rs) n k = cases r.1 (λ t. rw t n.0) (λ t. rw t (first_sound p key rs n.1 (λ a. k (t, a))))

module _ (p : List ℕ) (l : 240 ≤ length p) where
  ids_sound : (a : ℕ) (ids : List (List ℕ)) → Sound p (id_or (by_address a) ids)
  ids_sound a [] = l
  ids_sound a (id ∷ ids) = l

  key_sound : has_bad_length p ≡ false → Sound p (key_of p)
  unfolding key_of has_bad_length
  key_sound b =
      cases (has_hardware_key p)
      (λ h. cases (ltb 16 (hlen p))
      (λ f. absurd (or_false (eqb (hlen p) 0) (is_short (values_in 61 p)) (rw (h, f) at b)))
      (λ f. let k : hlen p ≤ 16 = ltb-false 16 (hlen p) f in rw h (l, k, part_length p 28 16 (omega arith))))
      (λ h. rw h (ids_sound (ciaddr p) (values_in 61 p)))
    where
      or_false : (x y : Bool) → ((x || true) || y) ≡ false → ⊥
      or_false true y e = let z : ◌≡◌ {A = ℕ} 1 0 = ap (λ (c : Bool). cond c 1 0) e in omega arith
      or_false false y e = let z : ◌≡◌ {A = ℕ} 1 0 = ap (λ (c : Bool). cond c 1 0) e in omega arith

not_not : (b : Bool) → not b ≡ false → b ≡ true
not_not true e = refl
not_not false e = sym e

pub asking_sound : (p : List ℕ) → Sound p (asking p)
unfolding asking refusals
asking_sound p =
    first_sound p (key_of p) (refusals p)
    (no, (no, (no, (no, (no, (no, (no, tt)))))))
    (λ n. key_sound p (packet_long p (not_not (is_packet p) n.0)) n.1.1.1.1.1.1.0)
  where
    no : {n : ℕ} → suc n ≡ 0 → ⊥
    no z = omega (arith, z)

-- ---- a query that is not refused has a hardware address that fits
abbrev pub NotRefused : Asked → Type 0
NotRefused (refused n) = ⊥
NotRefused (by_address a) = Unit {0}
NotRefused (by_hardware htype hlen octets) = Unit {0}
NotRefused (by_client_id octets) = Unit {0}

none_applies : (rs : List (ℕ × Bool)) (key : Asked) → NotRefused (first_of rs key) → NoneApplies rs
unfolding first_of
none_applies [] key n = tt
none_applies (r ∷ rs) key n = cases r.1 (λ t. absurd (rw t at n)) (λ t. (t, none_applies rs key (rw t at n)))

module _ (p : List ℕ) (l : 240 ≤ length p) where
  two_octets : part p 1 2 ≡ htype p ∷ hlen p ∷ []
  two_octets = rw (drop-cons p 1 0 (omega arith), drop-cons p 2 0 (omega arith))

  none_hlen : any_set (part p 1 2) ≡ false → hlen p ≡ 0
  unfolding any_set
  none_hlen e = go (eqb (htype p) 0) (eqb (hlen p) 0) (eqb-true (hlen p) 0) (sym (ap any_set two_octets) ∙ e)
    where
      go : (a b : Bool) → (b ≡ true → hlen p ≡ 0) → (not a || (not b || false)) ≡ false → hlen p ≡ 0
      go a true k z = k refl
      go true false k z = absurd (true≢false z)
      go false false k z = absurd (true≢false z)

  hlen_fits : has_bad_length p ≡ false → hlen p ≤ 16
  unfolding has_bad_length has_hardware_key
  hlen_fits b =
      cases (any_set (part p 1 2))
      (λ h. cases (ltb 16 (hlen p)) (λ f. absurd (long (eqb (hlen p) 0) (is_short (values_in 61 p)) (rw (h, f) at b))) (λ f. ltb-false 16 (hlen p) f))
      (λ h. let z = none_hlen h in omega (arith, z))
    where
      long : (x y : Bool) → ((x || true) || y) ≡ false → ⊥
      long true y e = true≢false e
      long false y e = true≢false e

pub asked_fits : (p : List ℕ) → NotRefused (asking p) → (240 ≤ length p) × (hlen p ≤ 16)
unfolding asking refusals
asked_fits p n =
    let a = none_applies (refusals p) (key_of p) n in
    let l = packet_long p (not_not (is_packet p) a.0) in
    (l, hlen_fits p l a.1.1.1.1.1.1.0)
