-- Every query that a desk writes is one that a box takes, said of any results that meet the promises of the calls. Document 02, d) and e).
use Rattle.std.specs.Prelude.{ℕ, ◌<◌, ◌≡◌, List, ◌⊎◌, length, take}
use Rattle.std.proofs.Math.Option.{none}
use Rattle.leasepacket.specs.Requested.{request_list}
use Rattle.leasepacket.specs.Query.{Asked, refused, by_address, by_client_id, asking}
use Rattle.deskquery.specs.declared.QueryAnswer.{QueryAnswer}
use Rattle.deskquery.specs.Query.{hardware_key, query_by}
use Rattle.deskquery.specs.Promise.{QueryPromise}
use Rattle.leaseclaims.specs.Claims.{Call}

-- What the three calls are handed as a key: an address, the type and the octets of a hardware address, or a client id.
pub data Handed : Type 0 where
  address : ℕ → Handed
  hardware : ℕ → List ℕ → Handed
  client_id : List ℕ → Handed

abbrev pub key_of : Handed → Asked
key_of (address a) = by_address a
key_of (hardware htype octets) = hardware_key htype octets
key_of (client_id id) = by_client_id id

-- An address is a number of 32 bits.
abbrev pub Address : ℕ → Type 0
Address a = a < 4294967296

-- What the types of the arguments say of a key.
abbrev pub Typed : Handed → Type 0
Typed (address a) = Address a
Typed (hardware htype octets) = Unit {0}
Typed (client_id id) = Unit {0}

-- A call that writes a query. Its promise, and the types of the addresses that it is handed, are all that is known of it.
pub record Asking : Type 0 where
  pub xid : ℕ
  pub giaddr : ℕ
  pub handed : Handed
  pub buffer : List ℕ
  pub result : QueryAnswer
  pub after : List ℕ
  pub relay : Address giaddr
  pub typed : Typed handed
  pub promised : QueryPromise xid giaddr (key_of handed) buffer result after

-- The query: as many octets of the buffer as the call answers.
abbrev pub sent : Asking → List ℕ
sent a = take a.result.length a.after

-- A query that was written passes the box's checks 1 to 7, and asks for the key that the call was handed.
abbrev pub AsksForItsKey : Type 0
AsksForItsKey = (a : Asking) → a.result.refusal ≡ 0 → asking (sent a) ≡ key_of a.handed

-- So the box's call refuses it only for what is its own: its clock (15), its table (9), its buffer (8).
abbrev pub Own : ℕ → Type 0
Own n = (n ≡ 15) ⊎ ((n ≡ 9) ⊎ (n ≡ 8))

abbrev pub TakenByTheBox : Type 0
TakenByTheBox = (a : Asking) (c : Call) → a.result.refusal ≡ 0 → c.query ≡ sent a → (c.result.refusal ≡ 0) ⊎ Own c.result.refusal

-- A query that was written has no list of options, so that the reply to it leaves none out (document 02, e)).
abbrev pub AsksForAll : Type 0
AsksForAll = (a : Asking) → a.result.refusal ≡ 0 → request_list (sent a) ≡ none

-- More octets than a packet can carry: of a client id above 255, since one octet tells its length.
abbrev pub TooLong : Handed → Type 0
TooLong (address a) = ⊥
TooLong (hardware htype octets) = ⊥
TooLong (client_id id) = 255 < length id

-- Nothing else is refused with 19 than such a client id, and what the box would refuse if it were written.
abbrev pub RefusesNoMore : Type 0
RefusesNoMore = (a : Asking) → a.result.refusal ≡ 19 → TooLong a.handed ⊎ ((n : ℕ) × (asking (query_by a.xid a.giaddr (key_of a.handed)) ≡ refused n))
