-- The lease queries that a desk sends. Document 02, d); the layout of a packet is that of document 01, "Lease table and queries".
use Rattle.std.specs.Prelude.{ℕ, Bool, false, cond, not, ◌&&◌, ◌||◌, List, [], ◌∷◌, ◌++◌, ltb, leb, eqb, length, replicate}
use Rattle.octets.specs.Number.{big_endian}
use Rattle.octets.specs.Write.{laid}
use Rattle.leasepacket.specs.Packet.{message_type, client_id, lease_query}
use Rattle.leasepacket.specs.Layout.{fixed_fields, option}
use Rattle.leasepacket.specs.Query.{Asked, refused, by_address, by_hardware, by_client_id, first_of}

-- A hardware address as a key: hlen says how many octets it has, and chaddr has zeros behind them.
unfoldable pub hardware_key : ℕ → List ℕ → Asked
hardware_key htype octets = by_hardware htype (length octets) (laid octets (replicate 16 0))

module _ (xid giaddr : ℕ) where
  -- op 1, the caller's xid and giaddr, the fields of the key, all else zero, the cookie; then 53, the option of a client id, and 255.
  unfoldable pub packet : ℕ → ℕ → ℕ → List ℕ → List ℕ → List ℕ
  packet ciaddr htype hlen chaddr id =
      fixed_fields 1 htype hlen (big_endian 4 xid) (replicate 2 0) (big_endian 4 ciaddr) (big_endian 4 giaddr) chaddr
      ++ option message_type (lease_query ∷ []) ++ id ++ (255 ∷ [])

  -- The query that asks by a key; nothing is written for a refusal.
  unfoldable pub query_by : Asked → List ℕ
  query_by (refused n) = []
  query_by (by_address a) = packet a 0 0 (replicate 16 0) []
  query_by (by_hardware htype hlen chaddr) = packet 0 htype hlen chaddr []
  query_by (by_client_id id) = packet 0 0 0 (replicate 16 0) (option client_id id)

-- A key that a box takes: an address that is not zero, a hardware address of 1 to 16 octets, a client id of 2 octets or more; and that a
-- query can carry: a client id of at most 255.
unfoldable pub is_key : Asked → Bool
is_key (refused n) = false
is_key (by_address a) = not (eqb a 0)
is_key (by_hardware htype hlen chaddr) = leb 1 hlen && leb hlen 16
is_key (by_client_id id) = leb 2 (length id) && leb (length id) 255

-- Each refusal with whether it applies: 19 is for a giaddr or a key that no box takes, 32 for a buffer of under 501 octets.
unfoldable pub write_refusals : ℕ → Bool → ℕ → List (ℕ × Bool)
write_refusals giaddr taken room = (19, eqb giaddr 0 || not taken) ∷ (32, ltb room 501) ∷ []

-- What is asked by a call with a key: the key, or the first refusal that applies.
unfoldable pub asked_by : ℕ → Asked → ℕ → Asked
asked_by giaddr key room = first_of (write_refusals giaddr (is_key key) room) key

-- ---- for the contracts of functions that are not exported

-- The number of that refusal, or 0.
unfoldable pub first_refusal : ℕ → Bool → ℕ → ℕ
first_refusal giaddr taken room = cond (eqb giaddr 0 || not taken) 19 (cond (ltb room 501) 32 0)

-- The fixed fields, with a hardware address of some octets.
abbrev pub fields : ℕ → ℕ → ℕ → ℕ → List ℕ → List ℕ
fields xid giaddr ciaddr htype octets =
    fixed_fields 1 htype (length octets) (big_endian 4 xid) (replicate 2 0) (big_endian 4 ciaddr) (big_endian 4 giaddr) (laid octets (replicate 16 0))
