-- The laws of a query that is to be written: its refusals, its octets, and the answer. Assumes nothing.
use Prim.Native.Nat.{ℕ, ◌≤◌, ◌<◌}
use mathlib.Core.Path.{◌≡◌, refl, sym, ap, ◌∙◌}
use mathlib.Core.Bool.{Bool, true, false, cond, not, ◌&&◌, ◌||◌}
use mathlib.Core.List.{List, [], ◌∷◌, ◌++◌}
use native.Mathlib.Omega.{arith}
use native.Mathlib.Nat.{zero-add}
use lib.Dec.{ltb, leb, eqb}
use lib.ListN.{length, replicate, drop, length-append, length-drop, length-replicate}
use borrow.Author.Tests.{lt-ltb, le-ltb, ltb-false, leb-true, eq-eqb, ne_eqb}
use Rattle.octets.proofs.BoolLaws.{and_right}
use Rattle.octets.specs.Write.{laid, WroteIf}
use Rattle.octets.proofs.NumberLaws.{length_big_endian}
use Rattle.octets.proofs.WriteLaws.{put_front}
use Rattle.leasepacket.specs.Layout.{fixed_fields, option}
use Rattle.leasepacket.specs.Query.{Asked, refused, by_address, by_client_id, first_of}
use Rattle.deskquery.specs.Query.{hardware_key, packet, query_by, is_key, write_refusals, asked_by, first_refusal}
use Rattle.deskquery.specs.Promise.{refusal_of, given, QueryPromise, Wrote, number_of, key_of, fields_for, option_for}
use Rattle.deskquery.specs.declared.key.Key.{Key}
use Rattle.deskquery.specs.declared.key.Key.TheVariants.{Address, Hardware, ClientId}
use Rattle.deskquery.specs.declared.refuse.Refusal.{Refusal}
use Rattle.deskquery.specs.declared.refuse.Refusal.TheVariants.{NotTaken, NoRoom}

-- ---- the first refusal, by each way out of it
module _ (giaddr : ℕ) (taken : Bool) (room : ℕ) where
  pub refuses_giaddr : giaddr ≡ 0 → 19 ≡ first_refusal giaddr taken room
  unfolding first_refusal
  refuses_giaddr g = simp (eq-eqb giaddr 0 g)

  pub refuses_key : (giaddr ≡ 0 → ⊥) → taken ≡ false → 19 ≡ first_refusal giaddr taken room
  unfolding first_refusal
  refuses_key g t = simp (ne_eqb giaddr 0 g, t)

  pub refuses_room : (giaddr ≡ 0 → ⊥) → taken ≡ true → room < 501 → 32 ≡ first_refusal giaddr taken room
  unfolding first_refusal
  refuses_room g t r = simp (ne_eqb giaddr 0 g, t, lt-ltb room 501 r)

  pub refuses_nothing : (giaddr ≡ 0 → ⊥) → taken ≡ true → 501 ≤ room → 0 ≡ first_refusal giaddr taken room
  unfolding first_refusal
  refuses_nothing g t r = simp (ne_eqb giaddr 0 g, t, le-ltb room 501 r)

-- the refusal by whether giaddr or key is refused, and the buffer
abbrev refusal_by : Bool → Bool → ℕ
refusal_by k r = cond k 19 (cond r 32 0)

-- where none applies, the key is taken and the buffer has room for any query
pub accepts_key : (giaddr : ℕ) (taken : Bool) (room : ℕ) → first_refusal giaddr taken room ≡ 0 → taken ≡ true
unfolding first_refusal
accepts_key giaddr taken room e = go (eqb giaddr 0) taken (ltb room 501) e
  where
    go : (g t r : Bool) → refusal_by (g || not t) r ≡ 0 → t ≡ true
    go g true r e = refl
    go true false r e = absurd (omega arith)
    go false false r e = absurd (omega arith)

pub accepts_room : (giaddr : ℕ) (taken : Bool) (room : ℕ) → first_refusal giaddr taken room ≡ 0 → 501 ≤ room
unfolding first_refusal
accepts_room giaddr taken room e = ltb-false room 501 (go (eqb giaddr 0 || not taken) (ltb room 501) e)
  where
    go : (k r : Bool) → refusal_by k r ≡ 0 → r ≡ false
    go k false e = refl
    go true true e = absurd (omega arith)
    go false true e = absurd (omega arith)

pub within_most : (n least most : ℕ) → (leb least n && leb n most) ≡ true → n ≤ most
within_most n least most e = leb-true n most (and_right (leb least n) (leb n most) e)

-- a key that is taken has so many octets at most
pub hardware_most : (htype : ℕ) (octets : List ℕ) → is_key (hardware_key htype octets) ≡ true → length octets ≤ 16
unfolding is_key hardware_key
hardware_most htype octets e = within_most (length octets) 1 16 e

pub id_most : (id : List ℕ) → is_key (by_client_id id) ≡ true → length id ≤ 255
unfolding is_key
id_most id e = within_most (length id) 2 255 e

pub no_option : (k : Key) → ((id : _) → k ≡ ClientId id → ⊥) → option_for k ≡ []
no_option (Address a) h = refl
no_option (Hardware htype octets) h = refl
no_option (ClientId id) h = absurd (h id refl)

-- ---- no query is longer than 501 octets: 240 of fixed fields, 3 of option 53, 257 of a client id at most, the end
zeros : length {A = ℕ} (replicate 16 0) ≡ 16
zeros = length-replicate {A = ℕ} 16 0

module _ (xid giaddr : ℕ) where
  packet_short : (ciaddr htype hlen : ℕ) (chaddr id : List ℕ) → length chaddr ≡ 16 → length id ≤ 257 → length (packet xid giaddr ciaddr htype hlen chaddr id) ≤ 501
  unfolding packet fixed_fields
  packet_short ciaddr htype hlen chaddr id c i =
      let x = length_big_endian 4 xid in
      let a = length_big_endian 4 ciaddr in
      let g = length_big_endian 4 giaddr in
      simp length-append (omega (arith, x, a, g))

  pub address_short : (a : ℕ) → length (query_by xid giaddr (by_address a)) ≤ 501
  unfolding query_by
  address_short a = packet_short a 0 0 (replicate 16 0) [] zeros (omega arith)

  pub hardware_short : (htype : ℕ) (octets : List ℕ) → length octets ≤ 16 → length (query_by xid giaddr (hardware_key htype octets)) ≤ 501
  unfolding query_by hardware_key laid
  hardware_short htype octets h =
      let l : length (octets ++ drop (length octets) (replicate 16 0)) ≡ 16 = simp (length-append, length-drop, zeros) (omega arith) in
      packet_short 0 htype (length octets) (octets ++ drop (length octets) (replicate 16 0)) [] l (omega arith)

  pub id_short : (id : List ℕ) → length id ≤ 255 → length (query_by xid giaddr (by_client_id id)) ≤ 501
  unfolding query_by
  id_short id h = packet_short 0 0 0 (replicate 16 0) (option 61 id) zeros (omega arith)

  -- ---- a query by the key that is handed in: what it consists of, in the order in which it is written, and its length
  pub query_parts : (k : Key) → fields_for xid giaddr k ++ option 53 (10 ∷ []) ++ option_for k ++ (255 ∷ []) ≡ query_by xid giaddr (key_of k)
  unfolding query_by packet hardware_key laid
  query_parts (Address a) = refl
  query_parts (Hardware htype octets) = refl
  query_parts (ClientId id) = refl

  pub query_short : (k : Key) → is_key (key_of k) ≡ true → length (query_by xid giaddr (key_of k)) ≤ 501
  query_short (Address a) e = address_short a
  query_short (Hardware htype octets) e = hardware_short htype octets.now (hardware_most htype octets.now e)
  query_short (ClientId id) e = id_short id.now (id_most id.now e)

-- ---- a query was written into a buffer with room for any
pub wrote : {b ys w : List ℕ} (l : List ℕ) (n : ℕ) → ys ≡ w → 501 ≤ length b → length w ≤ 501 → WroteIf b 0 ys l n → Wrote w b n l
wrote {b} {ys} {w} l n e h s v =
    let q : length ys ≡ length w = ap length e in
    let r = v.fit (omega arith) in
    let a : n ≡ length ys = r.next ∙ zero-add (length ys) in
    record { answers = a ∙ q; holds = r.list ∙ put_front b ys ∙ ap (λ (o : List ℕ). laid o b) e; few = omega arith }

-- ---- the promise, by whether a refusal applies
module _ (giaddr : ℕ) (key : Asked) (room : ℕ) where
  asked_refused : (n : ℕ) → n ≡ first_refusal giaddr (is_key key) room → (n ≡ 0 → ⊥) → asked_by giaddr key room ≡ refused n
  unfolding asked_by first_of write_refusals first_refusal
  asked_refused n e h = go (eqb giaddr 0 || not (is_key key)) (ltb room 501) e
    where
      go : (k r : Bool) → n ≡ refusal_by k r → cond k (refused 19) (cond r (refused 32) key) ≡ refused n
      go true r e = ap refused (sym e)
      go false true e = ap refused (sym e)
      go false false e = absurd (h e)

  asked_key : first_refusal giaddr (is_key key) room ≡ 0 → asked_by giaddr key room ≡ key
  unfolding asked_by first_of write_refusals first_refusal
  asked_key e = go (eqb giaddr 0 || not (is_key key)) (ltb room 501) e
    where
      go : (k r : Bool) → refusal_by k r ≡ 0 → cond k (refused 19) (cond r (refused 32) key) ≡ key
      go true r e = absurd (omega arith)
      go false true e = absurd (omega arith)
      go false false e = refl

-- a key that is handed in is no refusal, and no refusal has the number 0
pub key_refusal : (k : Key) → refusal_of (key_of k) ≡ 0
unfolding hardware_key
key_refusal (Address a) = refl
key_refusal (Hardware htype octets) = refl
key_refusal (ClientId id) = refl

pub not_zero : (r : Refusal) → number_of r ≡ 0 → ⊥
not_zero NotTaken z = omega (arith, z)
not_zero NoRoom z = omega (arith, z)

module _ (xid giaddr : ℕ) (key : Asked) (before : List ℕ) where
  pub promised_refusal : (n : ℕ) → n ≡ first_refusal giaddr (is_key key) (length before) → (n ≡ 0 → ⊥) → QueryPromise xid giaddr key before (record { refusal = n; length = 0 }) before
  unfolding given query_by laid
  promised_refusal n e h = rw (asked_refused giaddr key (length before) n e h)

  pub promised_query : (after : List ℕ) (n : ℕ) → refusal_of key ≡ 0 → first_refusal giaddr (is_key key) (length before) ≡ 0 → Wrote (query_by xid giaddr key) before n after → QueryPromise xid giaddr key before (record { refusal = 0; length = n }) after
  unfolding given
  promised_query after n k e w = rw (asked_key giaddr key (length before) e, k, w.answers, w.holds)
