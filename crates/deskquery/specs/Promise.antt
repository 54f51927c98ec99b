-- What the calls that write a query promise. Document 02, d).
use Rattle.std.specs.Prelude.{ℕ, ◌≤◌, ◌≡◌, List, [], length, Result, Ok, Err}
use Rattle.octets.specs.Write.{laid}
use Rattle.leasepacket.specs.Query.{Asked, refused, by_address, by_hardware, by_client_id}
use Rattle.deskquery.specs.declared.QueryAnswer.{QueryAnswer}
use Rattle.deskquery.specs.declared.key.Key.{Key}
use Rattle.deskquery.specs.declared.key.Key.TheVariants.{Address, Hardware, ClientId}
use Rattle.deskquery.specs.declared.refuse.Refusal.{Refusal}
use Rattle.deskquery.specs.declared.refuse.Refusal.TheVariants.{NotTaken, NoRoom}
use Rattle.leasepacket.specs.Layout.{option}
use Rattle.deskquery.specs.Query.{hardware_key, query_by, asked_by, fields}

-- The number of a refusal; 0 says that there is none.
abbrev pub refusal_of : Asked → ℕ
refusal_of (refused n) = n
refusal_of (by_address a) = 0
refusal_of (by_hardware htype hlen chaddr) = 0
refusal_of (by_client_id id) = 0

-- What is asked gives the numbers, and what the buffer holds then: the query at its front, and behind it what stood there. A refusal has no
-- octets, so that every octet of the buffer is as before.
unfoldable pub given : ℕ → ℕ → Asked → List ℕ → QueryAnswer × List ℕ
given xid giaddr asked before =
    (record { refusal = refusal_of asked; length = length (query_by xid giaddr asked) }, laid (query_by xid giaddr asked) before)

-- A call with an xid, a giaddr, a key and a buffer.
abbrev pub QueryPromise : ℕ → ℕ → Asked → List ℕ → QueryAnswer → List ℕ → Type 0
QueryPromise xid giaddr key before result after = (result, after) ≡ given xid giaddr (asked_by giaddr key (length before)) before

-- ---- for the contracts of functions that are not exported

-- What a writer of a query answers, its length, and what the buffer holds then.
pub record Wrote (octets before : List ℕ) (n : ℕ) (after : List ℕ) : Type 0 where
  pub answers : n ≡ length octets
  pub holds : after ≡ laid octets before
  pub few : n ≤ 501

-- The number of a refusal, and of the first that applies; 0 says that there is none.
abbrev pub number_of : Refusal → ℕ
number_of NotTaken = 19
number_of NoRoom = 32

abbrev pub number_in : Result (Unit {0}) Refusal → ℕ
number_in (Ok _) = 0
number_in (Err r) = number_of r

-- The key that is handed in.
abbrev pub key_of : Key → Asked
key_of (Address address) = by_address address
key_of (Hardware htype octets) = hardware_key htype octets.now
key_of (ClientId id) = by_client_id id.now

-- The fixed fields of a query by it, and the option that it has of its own.
abbrev pub fields_for : ℕ → ℕ → Key → List ℕ
fields_for xid giaddr (Address address) = fields xid giaddr address 0 []
fields_for xid giaddr (Hardware htype octets) = fields xid giaddr 0 htype octets.now
fields_for xid giaddr (ClientId id) = fields xid giaddr 0 0 []

abbrev pub option_for : Key → List ℕ
option_for (Address address) = []
option_for (Hardware htype octets) = []
option_for (ClientId id) = option 61 id.now
