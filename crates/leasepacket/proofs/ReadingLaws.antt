-- What is read of a packet, by the first refusal that applies, and that the place of a client id is its place. Assumes nothing.
use Prim.Native.Nat.{ℕ, ◌+◌, ◌≤◌, ◌<◌}
use mathlib.Core.Path.{◌≡◌, refl, sym, ap, ◌∙◌}
use mathlib.Core.List.{List, [], ◌∷◌}
use mathlib.Core.Bool.{Bool, true, false, cond, not, ◌||◌}
use native.Mathlib.Omega.{arith}
use borrow.Table.Steps.{cases}
use lib.Seq.{drop-drop}
use borrow.Author.Tests.{eq-eqb, ne_eqb, lt-ltb, le-ltb}
use lib.Dec.{eqb, ltb}
use lib.ListN.{length, get_or, take, drop}
use Rattle.std.specs.Prelude.{is_some, Option, Some, None, Ok, Err}
use Rattle.leasepacket.specs.declared.options.Place.{Place}
use Rattle.leasepacket.specs.declared.query.Query.TheVariants.{ByAddress, ByHardware, ByClientId}
use Rattle.leasepacket.specs.declared.query.Refusal.TheVariants.{NotPacket, NotRequest, BadOptions, NotQuery, NoRelay, NotOneKey, BadLength}
use Rattle.leasepacket.specs.Packet.{part, op, htype, hlen, ciaddr, giaddr, chaddr, is_packet}
use Rattle.leasepacket.specs.Options.{values_in, has_options}
use Rattle.leasepacket.specs.Requested.{list_fits}
use Rattle.leasepacket.specs.Query.{Asked, refused, by_address, by_hardware, by_client_id, has_hardware_key, keys, is_lease_query, id_or, key_of, has_bad_length, refusals, first_of, asking}
use Rattle.leasepacket.specs.Occurrence.{before, place_of}
use Rattle.leasepacket.specs.Reading.{id_place, read_at, reading, asked, refusal_of, number_of}
use Rattle.leasepacket.specs.Places.{ReadAs, Past, Passed, key_count}
use Rattle.leasepacket.proofs.OccurrenceLaws.{value_at}
use Rattle.leasepacket.proofs.QueryLaws.{reads, applies, passes, none_left, begins, type_long, type_is, keys_zero, keys_some, key_is, length_is, not_one, one, part_length}

-- ---- the packet, its op, its options
module _ (p : List ℕ) where
  pub refuses_1 : is_packet p ≡ false → Err NotPacket ≡ reading p
  unfolding refusals
  refuses_1 e = applies p 1 _ _ (begins p) (ap not e)

  module _ (e : is_packet p ≡ true) where
    pub refuses_2 : (op p ≡ 1 → ⊥) → Err NotRequest ≡ reading p
    unfolding refusals
    refuses_2 f = applies p 2 _ _ (passes p 1 _ _ (begins p) (ap not e)) (ap not (ne_eqb (op p) 1 f))

    pub past_2 : op p ≡ 1 → Past 2 p
    unfolding refusals
    past_2 f = passes p 2 _ _ (passes p 1 _ _ (begins p) (ap not e)) (ap not (eq-eqb (op p) 1 f))

  pub refuses_3 : Past 2 p → has_options p ≡ false → Err BadOptions ≡ reading p
  unfolding refusals
  refuses_3 s e = applies p 3 _ _ s (rw e)

  module _ (s : Past 2 p) (e : has_options p ≡ true) where
    pub refuses_list : list_fits (values_in 55 p) ≡ false → Err BadOptions ≡ reading p
    unfolding refusals
    refuses_list f = applies p 3 _ _ s (rw (e, f))

    pub past_3 : list_fits (values_in 55 p) ≡ true → Past 3 p
    unfolding refusals
    past_3 f = passes p 3 _ _ s (rw (e, f))

-- ---- the message type, and the giaddr
module _ (p : List ℕ) where
  module _ (s : Past 3 p) where
    pub refuses_4 : is_lease_query (values_in 53 p) ≡ false → Err NotQuery ≡ reading p
    unfolding refusals
    refuses_4 e = applies p 4 _ _ s (ap not e)

    pub past_4 : is_lease_query (values_in 53 p) ≡ true → Past 4 p
    unfolding refusals
    past_4 e = passes p 4 _ _ s (ap not e)

  module _ (s : Past 4 p) where
    pub refuses_5 : giaddr p ≡ 0 → Err NoRelay ≡ reading p
    unfolding refusals
    refuses_5 e = applies p 5 _ _ s (eq-eqb (giaddr p) 0 e)

    pub past_5 : (giaddr p ≡ 0 → ⊥) → Past 5 p
    unfolding refusals
    past_5 e = passes p 5 _ _ s (ne_eqb (giaddr p) 0 e)

-- past the fourth and the fifth refusal, with the place of the client id carried along
module _ (p : List ℕ) (id : Option Place) where
  pub passed_4 : Passed 3 p id → is_lease_query (values_in 53 p) ≡ true → Passed 4 p id
  unfolding refusals
  passed_4 s e = record { long = s.long; past = passes p 4 _ _ s.past (ap not e); ids = s.ids; stands = s.stands }

  pub passed_5 : Passed 4 p id → (giaddr p ≡ 0 → ⊥) → Passed 5 p id
  unfolding refusals
  passed_5 s e = record { long = s.long; past = passes p 5 _ _ s.past (ne_eqb (giaddr p) 0 e); ids = s.ids; stands = s.stands }

-- a message type of one octet, or another
pub type_absent : (p : List ℕ) → ReadAs 53 p None → is_lease_query (values_in 53 p) ≡ false
type_absent p r = ap is_lease_query r.are

module _ (p : List ℕ) (q : Place) (r : ReadAs 53 p (Some q)) where
  pub type_of_many : (q.len ≡ 1 → ⊥) → is_lease_query (values_in 53 p) ≡ false
  type_of_many k = ap is_lease_query r.are ∙ type_long p q.at q.len r.inside k

  module _ (e : q.len ≡ 1) where
    pub type_inside : q.at < length p
    type_inside = omega (arith, r.inside, e)

    pub type_is_octet : is_lease_query (values_in 53 p) ≡ eqb (get_or p q.at 0) 10
    type_is_octet = ap is_lease_query r.are ∙ type_is p q.at q.len e type_inside

-- ---- the keys: an address, a hardware key, a client id
module _ (p : List ℕ) (id : Option Place) (s : Passed 5 p id) where
  ids_count : length (values_in 61 p) ≡ cond (is_some id) 1 0
  ids_count = go id s.ids
    where
      go : (i : Option Place) → ReadAs 61 p i → length (values_in 61 p) ≡ cond (is_some i) 1 0
      go None r = ap length r.are
      go (Some q) r = ap length r.are

  pub keys_counted : {address n : ℕ} {hardware : Bool} → address ≡ ciaddr p → hardware ≡ has_hardware_key p → n ≡ key_count address hardware id → n ≡ keys p
  unfolding keys
  keys_counted a h e = rw (e, a, h, ids_count)

  pub refuses_6 : (keys p ≡ 1 → ⊥) → Err NotOneKey ≡ reading p
  unfolding refusals
  refuses_6 k = applies p 6 _ _ s.past (not_one (keys p) _ refl k)

  pub passed_6 : keys p ≡ 1 → Passed 6 p id
  unfolding refusals
  passed_6 e = record { long = s.long; past = passes p 6 _ _ s.past (one (keys p) _ refl e); ids = s.ids; stands = s.stands }

  -- where a hardware key is the only one there is no client id
  pub hardware_alone : has_hardware_key p ≡ true → keys p ≡ 1 → Passed 6 p None
  hardware_alone h e = go id (passed_6 e) (keys_counted refl refl refl ∙ e)
    where
      go : (i : Option Place) → Passed 6 p i → key_count (ciaddr p) (has_hardware_key p) i ≡ 1 → Passed 6 p None
      go None t k = t
      go (Some q) t k = let l : cond (eqb (ciaddr p) 0) 0 1 + 1 + 1 ≡ 1 = rw h at k in absurd (omega (arith, l))

-- a client id beside another key is refused
module _ (p : List ℕ) (at n : ℕ) (s : Passed 5 p (Some (record { at = at; len = n }))) where
  pub address_and_id : (ciaddr p ≡ 0 → ⊥) → Err NotOneKey ≡ reading p
  unfolding refusals
  address_and_id a = applies p 6 _ _ s.past (not_one (keys p) _ (keys_some p (has_hardware_key p) (part p at n ∷ []) refl s.ids.are a) (λ z. omega (arith, z)))

  pub hardware_and_id : ciaddr p ≡ 0 → has_hardware_key p ≡ true → Err NotOneKey ≡ reading p
  unfolding refusals
  hardware_and_id a h = applies p 6 _ _ s.past (not_one (keys p) _ (keys_zero p true (part p at n ∷ []) h s.ids.are a) (λ z. omega (arith, z)))

-- ---- one key, of a length that a key may have
module _ (p : List ℕ) (s : Passed 6 p None) (h : has_hardware_key p ≡ false) where
  pub address_read : Ok (ByAddress (ciaddr p)) ≡ reading p
  unfolding refusals
  address_read = reads p (by_address (ciaddr p)) (passes p 7 _ _ s.past (length_is p false [] h s.ids.are) ∙ none_left p ∙ key_is p false [] h s.ids.are)

module _ (p : List ℕ) (q : Place) (s : Passed 6 p (Some q)) (h : has_hardware_key p ≡ false) where
  size : length (part p q.at q.len) ≡ q.len
  size = part_length p q.at q.len s.ids.inside

  bad_id : has_bad_length p ≡ ltb (length (part p q.at q.len)) 2
  bad_id = length_is p false (part p q.at q.len ∷ []) h s.ids.are

  pub short_id : q.len < 2 → Err BadLength ≡ reading p
  unfolding refusals
  short_id l = applies p 7 _ _ s.past (bad_id ∙ lt-ltb (length (part p q.at q.len)) 2 (omega (arith, size, l)))

  pub id_read : 2 ≤ q.len → Ok (ByClientId q) ≡ reading p
  unfolding refusals
  id_read l =
      let t = passes p 7 _ _ s.past (bad_id ∙ le-ltb (length (part p q.at q.len)) 2 (omega (arith, size, l))) in
      ap (λ (a : ℕ). Ok (ByClientId (record { at = a; len = q.len }))) s.stands
      ∙ ap (λ (m : ℕ). Ok (ByClientId (record { at = id_place p; len = m }))) (sym size)
      ∙ reads p (by_client_id (part p q.at q.len)) (t ∙ none_left p ∙ key_is p false (part p q.at q.len ∷ []) h s.ids.are)

-- ---- by hardware address: where it is the only key there is no client id
module _ (p : List ℕ) (s : Passed 6 p None) (h : has_hardware_key p ≡ true) where
  bad : has_bad_length p ≡ ((eqb (hlen p) 0 || ltb 16 (hlen p)) || false)
  bad = length_is p true [] h s.ids.are

  pub hardware_none : hlen p ≡ 0 → Err BadLength ≡ reading p
  unfolding refusals
  hardware_none e = applies p 7 _ _ s.past (bad ∙ rw (eq-eqb (hlen p) 0 e))

  pub hardware_long : (hlen p ≡ 0 → ⊥) → 16 < hlen p → Err BadLength ≡ reading p
  unfolding refusals
  hardware_long e l = applies p 7 _ _ s.past (bad ∙ rw (ne_eqb (hlen p) 0 e, lt-ltb 16 (hlen p) l))

  pub hardware_read : (hlen p ≡ 0 → ⊥) → hlen p ≤ 16 → Ok (ByHardware (htype p) (hlen p)) ≡ reading p
  unfolding refusals
  hardware_read e l =
      let t = passes p 7 _ _ s.past (bad ∙ rw (ne_eqb (hlen p) 0 e, le-ltb 16 (hlen p) l)) in
      reads p (by_hardware (htype p) (hlen p) (chaddr p)) (t ∙ none_left p ∙ key_is p true [] h s.ids.are)

-- ---- the place of the client id is where it stands, and the number of a refusal is its own: what is asked for names only octets of the packet
abbrev Own : List ℕ → Asked → Type 0
Own p (refused n) = number_of (refusal_of n) ≡ n
Own p (by_address a) = Unit {0}
Own p (by_hardware htype hlen octets) = octets ≡ chaddr p
Own p (by_client_id octets) = part p (id_place p) (length octets) ≡ octets

abbrev HaveNumbers : List (ℕ × Bool) → Type 0
HaveNumbers [] = Unit {0}
HaveNumbers (r ∷ rs) = (number_of (refusal_of r.0) ≡ r.0) × HaveNumbers rs

module _ (p : List ℕ) where
  own_first : (rs : List (ℕ × Bool)) (key : Asked) → HaveNumbers rs → Own p key → Own p (first_of rs key)
  unfolding first_of
  own_first [] key n k = k
  own_first (r ∷ rs) key n k = cases r.1 (λ t. rw t n.0) (λ t. rw t (own_first rs key n.1 k))

  have_numbers : HaveNumbers (refusals p)
  unfolding refusals
  have_numbers = (refl, (refl, (refl, (refl, (refl, (refl, (refl, tt)))))))

  own_id : (ids : List (List ℕ)) → values_in 61 p ≡ ids → Own p (id_or (by_address (ciaddr p)) ids)
  unfolding place_of
  own_id [] e = tt
  own_id (id ∷ ids) e = ap (take (length id)) (sym (drop-drop (before 61 0 (drop 240 p)) 240 p)) ∙ value_at 61 0 (drop 240 p) id ids e

  own_key : Own p (key_of p)
  unfolding key_of
  own_key = cases (has_hardware_key p) (λ t. rw t refl) (λ t. rw t (own_id (values_in 61 p) refl))

  own_asked : (a : Asked) → Own p a → asked p (read_at (id_place p) a) ≡ a
  own_asked (refused n) o = ap refused o
  own_asked (by_address a) o = refl
  own_asked (by_hardware htype hlen octets) o = ap (by_hardware htype hlen) (sym o)
  own_asked (by_client_id octets) o = ap by_client_id o

  -- what was read asks for what the packet asks for
  pub read_asks : asked p (reading p) ≡ asking p
  unfolding asking reading
  read_asks = own_asked (asking p) (own_first (refusals p) (key_of p) have_numbers own_key)
