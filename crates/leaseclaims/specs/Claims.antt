-- What every answer to a lease query keeps, said of any result that meets the promise of the call. Document 00, demand 2; document 01, "Lease table and queries".
use Rattle.std.specs.Prelude.{ℕ, ◌≤◌, ◌<◌, ◌≡◌, Bool, true, List, [], ◌∷◌, map, ◌⊎◌, length, get_or, take}
use Rattle.clock.specs.declared.Moment.{Moment}
use Rattle.octets.specs.Write.{laid}
use Rattle.lease.specs.declared.Lease.{Lease}
use Rattle.lease.specs.Lease.{no_lease, active_at, has_hardware, has_client_id, rank_of, ranks_before}
use Rattle.leasepacket.specs.Query.{Asked, by_hardware, by_client_id, asking}
use Rattle.leasereply.specs.Reply.{other_reply, active_reply}
use Rattle.leasequery.specs.declared.LeaseAnswer.{LeaseAnswer}
use Rattle.leasequery.specs.Answer.{has_key}
use Rattle.leasequery.specs.Promise.{LeasePromise}

-- A call, its result and what the buffer holds then. The promise of `jespurla_lease_query` is all that is known of them.
pub record Call : Type 0 where
  pub clock : Moment
  pub table : List Lease
  pub server : ℕ
  pub query : List ℕ
  pub buffer : List ℕ
  pub result : LeaseAnswer
  pub after : List ℕ
  pub promised : LeasePromise clock table server query buffer result after

-- The lease at a place of the table is active at the call's clock and passes a test.
pub record ActiveAt (c : Call) (test : Lease → Bool) (i : ℕ) : Type 0 where
  pub inside : i < length c.table
  pub active : active_at c.clock (get_or c.table i no_lease) ≡ true
  pub has : test (get_or c.table i no_lease) ≡ true

-- No place of the table holds an active lease that passes the test.
abbrev pub NoneActive : Call → (Lease → Bool) → Type 0
NoneActive c test = (i : ℕ) → ActiveAt c test i → ⊥

-- Demand 2: a query by client that meets no refusal is answered unknown (12) exactly if no active lease of that client exists in the lent table.
-- A client asks by its hardware address or by its client id, as the packet says.
abbrev pub UnknownExactly : Call → (Lease → Bool) → Type 0
UnknownExactly c test = (c.result.kind ≡ 12 → NoneActive c test) × (NoneActive c test → c.result.kind ≡ 12)

pub record Demand2 : Type 0 where
  pub by_hardware_lem : (c : Call) (htype hlen : ℕ) (octets : List ℕ) → c.result.refusal ≡ 0 → asking c.query ≡ by_hardware htype hlen octets → UnknownExactly c (has_hardware htype hlen octets)
  pub by_client_id_lem : (c : Call) (octets : List ℕ) → c.result.refusal ≡ 0 → asking c.query ≡ by_client_id octets → UnknownExactly c (has_client_id (length octets) octets)

-- After any answer of 12, by client or by address, the buffer holds the reply that says unknown, and behind it what it held before.
abbrev pub TellsUnknown : Type 0
TellsUnknown = (c : Call) → c.result.kind ≡ 12 → c.after ≡ laid (other_reply 12 c.server c.query) c.buffer

-- The key is a client's: a hardware address or a client id.
abbrev pub ByClient : Asked → Type 0
ByClient key = ((htype : ℕ) × (hlen : ℕ) × (octets : List ℕ) × (key ≡ by_hardware htype hlen octets)) ⊎ ((octets : List ℕ) × (key ≡ by_client_id octets))

-- A query whose packet asks by a client's key is never answered unassigned (11), refused or not.
abbrev pub NeverUnassigned : Type 0
NeverUnassigned = (c : Call) → ByClient (asking c.query) → c.result.kind ≡ 11 → ⊥

-- A lease stands in a list.
abbrev pub In : Lease → List Lease → Type 0
In x [] = ⊥
In x (y ∷ ys) = (x ≡ y) ⊎ In x ys

-- A list is in order if each lease ranks before all that stand behind it; so none stands there twice.
abbrev pub Behind : Lease → List Lease → Type 0
Behind x [] = Unit {0}
Behind x (y ∷ ys) = (ranks_before (rank_of x) (rank_of y) ≡ true) × Behind x ys

abbrev pub Ordered : List Lease → Type 0
Ordered [] = Unit {0}
Ordered (x ∷ xs) = Behind x xs × Ordered xs

-- The addresses that option 92 gives of a client's leases: none where there is but one lease, else the first 63.
abbrev pub given : List Lease → List ℕ
given [] = []
given (x ∷ []) = []
given (x ∷ y ∷ ys) = take 63 (map (λ z. z.address) (x ∷ y ∷ ys))

-- What a 13 tells a client that asks by a key: of all its active leases, in rank order, each once. The best is the one that ranks first, and
-- the buffer holds the reply about it with the addresses that are given of all, and behind the reply what it held before.
pub record ToldActive (c : Call) (key : Asked) : Type 0 where
  pub best : Lease
  pub others : List Lease
  pub ordered : Ordered (best ∷ others)
  pub only : (x : Lease) → In x (best ∷ others) → (i : ℕ) × ActiveAt c (has_key key) i × (get_or c.table i no_lease ≡ x)
  pub all : (i : ℕ) → ActiveAt c (has_key key) i → In (get_or c.table i no_lease) (best ∷ others)
  pub holds : c.after ≡ laid (active_reply c.clock c.server c.query best (given (best ∷ others))) c.buffer

abbrev pub TellsActive : Type 0
TellsActive = (c : Call) → ByClient (asking c.query) → c.result.kind ≡ 13 → ToldActive c (asking c.query)

-- The length that any call answers is at most 648 octets.
abbrev pub Fits : Type 0
Fits = (c : Call) → c.result.length ≤ 648
