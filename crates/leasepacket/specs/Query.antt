-- What a lease query asks for. Document 01, "Lease table and queries" and "Refusal numbers", 1 to 7 rising.
use Rattle.std.specs.Prelude.{ℕ, ◌+◌, Bool, false, cond, not, ◌&&◌, ◌||◌, List, [], ◌∷◌, ltb, eqb, length}
use Rattle.octets.specs.Compare.{same_octets}
use Rattle.leasepacket.specs.Packet.{part, op, htype, hlen, ciaddr, giaddr, chaddr, message_type, client_id, parameter_request_list, lease_query, is_packet}
use Rattle.leasepacket.specs.Options.{values_in, has_options}
use Rattle.leasepacket.specs.Requested.{list_fits}

-- What a query asks for: a refusal, or a key. A hardware key has a type, a length and the 16 octets of chaddr.
pub data Asked : Type 0 where
  refused : ℕ → Asked
  by_address : ℕ → Asked
  by_hardware : ℕ → ℕ → List ℕ → Asked
  by_client_id : List ℕ → Asked

-- Some octet is not zero.
unfoldable pub any_set : List ℕ → Bool
any_set [] = false
any_set (x ∷ xs) = not (eqb x 0) || any_set xs

-- A hardware key is there if any octet of htype, hlen or the 16 of chaddr is not zero.
unfoldable pub has_hardware_key : List ℕ → Bool
has_hardware_key p = any_set (part p 1 2) || any_set (chaddr p)

-- How many keys there are: a ciaddr that is not zero, a hardware key, an option 61.
unfoldable pub keys : List ℕ → ℕ
keys p = cond (eqb (ciaddr p) 0) 0 1 + cond (has_hardware_key p) 1 0 + length (values_in client_id p)

-- The key of a packet that has exactly one.
abbrev pub id_or : Asked → List (List ℕ) → Asked
id_or key [] = key
id_or key (id ∷ _) = by_client_id id

unfoldable pub key_of : List ℕ → Asked
key_of p = cond (has_hardware_key p) (by_hardware (htype p) (hlen p) (chaddr p)) (id_or (by_address (ciaddr p)) (values_in client_id p))

-- The message is a lease query: option 53 is there, with the one octet 10.
abbrev pub is_lease_query : List (List ℕ) → Bool
is_lease_query [] = false
is_lease_query (kind ∷ _) = same_octets kind (lease_query ∷ [])

-- The key has no length that a key may have: a hardware key with hlen 0 or above 16, a client id of length 0 or 1.
abbrev pub is_short : List (List ℕ) → Bool
is_short [] = false
is_short (id ∷ _) = ltb (length id) 2

unfoldable pub has_bad_length : List ℕ → Bool
has_bad_length p = (has_hardware_key p && (eqb (hlen p) 0 || ltb 16 (hlen p))) || is_short (values_in client_id p)

-- Each refusal of a packet with whether it applies: 3 is for the options of any packet and for a query's list (document 02, e)), 5 for a giaddr
-- of zero, 6 for other than one key.
unfoldable pub refusals : List ℕ → List (ℕ × Bool)
refusals p =
    (1, not (is_packet p))
    ∷ (2, not (eqb (op p) 1))
    ∷ (3, not (has_options p && list_fits (values_in parameter_request_list p)))
    ∷ (4, not (is_lease_query (values_in message_type p)))
    ∷ (5, eqb (giaddr p) 0)
    ∷ (6, not (eqb (keys p) 1))
    ∷ (7, has_bad_length p)
    ∷ []

-- The first refusal that applies is given; where none does, what is asked for stands.
unfoldable pub first_of : List (ℕ × Bool) → Asked → Asked
first_of [] key = key
first_of (r ∷ rs) key = cond r.1 (refused r.0) (first_of rs key)

unfoldable pub asking : List ℕ → Asked
asking p = first_of (refusals p) (key_of p)
