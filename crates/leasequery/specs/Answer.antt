-- The answer to a lease query. Document 01, "Lease table and queries".
use Rattle.std.specs.Prelude.{ℕ, Bool, false, cond, not, ◌&&◌, List, [], ◌∷◌, map, ltb, eqb, length, take}
use Rattle.clock.specs.declared.Moment.{Moment}
use Rattle.clock.specs.Clock.{is_moment}
use Rattle.lease.specs.declared.Lease.{Lease}
use Rattle.lease.specs.Lease.{active_at, has_hardware, has_client_id}
use Rattle.leasepacket.specs.Query.{Asked, refused, by_address, by_hardware, by_client_id, first_of, asking}
use Rattle.leasetable.specs.Table.{table_fits, those, ranked}
use Rattle.leasereply.specs.Reply.{other_reply, active_reply}
use Rattle.leasequery.specs.declared.LeaseAnswer.{LeaseAnswer}

-- What a query comes to: a refusal, or a reply of a kind with its octets.
pub data Outcome : Type 0 where
  refusal : ℕ → Outcome
  reply : ℕ → List ℕ → Outcome

-- The numbers that the call answers, and the octets that it writes.
abbrev pub told : Outcome → LeaseAnswer
told (refusal n) = record { refusal = n; kind = 0; length = 0 }
told (reply kind octets) = record { refusal = 0; kind = kind; length = length octets }

abbrev pub written : Outcome → List ℕ
written (refusal n) = []
written (reply kind octets) = octets

-- Whether a lease has the key that a query asks by.
unfoldable pub has_key : Asked → Lease → Bool
has_key (refused n) x = false
has_key (by_address a) x = eqb x.address a
has_key (by_hardware htype hlen octets) x = has_hardware htype hlen octets x
has_key (by_client_id octets) x = has_client_id (length octets) octets x

module _ (clock : Moment) (server : ℕ) (query : List ℕ) where
  abbrev unassigned : Outcome
  unassigned = reply 11 (other_reply 11 server query)

  abbrev unknown : Outcome
  unknown = reply 12 (other_reply 12 server query)

  abbrev active : Lease → List ℕ → Outcome
  active x addresses = reply 13 (active_reply clock server query x addresses)

  -- By address, of the records of that address: the first decides, by whether it is active; without one the answer is unknown.
  unfoldable pub by_address_of : List Lease → Outcome
  by_address_of [] = unknown
  by_address_of (x ∷ xs) = cond (active_at clock x) (active x []) unassigned

  -- By client, of its active leases in the order of their ranks: the first is the answer, and with two or more the addresses of the
  -- first 63 are given; without one the answer is unknown.
  unfoldable pub by_client_of : List Lease → Outcome
  by_client_of [] = unknown
  by_client_of (x ∷ []) = active x []
  by_client_of (x ∷ y ∷ ys) = active x (take 63 (map (λ z. z.address) (x ∷ y ∷ ys)))

  -- The active leases of a client, in the table's order.
  abbrev pub leases_of : Asked → List Lease → List Lease
  leases_of key table = those (λ x. active_at clock x && has_key key x) table

  -- By what is asked: a refusal stands, and a key is looked for in the table.
  unfoldable pub answer_by : Asked → List Lease → Outcome
  answer_by (refused n) table = refusal n
  answer_by (by_address a) table = by_address_of (those (has_key (by_address a)) table)
  answer_by (by_hardware htype hlen octets) table = by_client_of (ranked (leases_of (by_hardware htype hlen octets) table))
  answer_by (by_client_id octets) table = by_client_of (ranked (leases_of (by_client_id octets) table))

-- The first refusal that applies: 15, 9, 8, then those of the packet; or the key.
unfoldable pub asked_of : Moment → List Lease → List ℕ → ℕ → Asked
asked_of clock table query room =
    first_of ((15, not (is_moment clock)) ∷ (9, not (table_fits table)) ∷ (8, ltb room 648) ∷ []) (asking query)

-- The whole call; room is the length of the buffer.
unfoldable pub answer : Moment → List Lease → ℕ → List ℕ → ℕ → Outcome
answer clock table server query room = answer_by clock server query (asked_of clock table query room) table
