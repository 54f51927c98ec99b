-- What the functions below the exported call hand on. Only their contracts cite this.
use Rattle.std.specs.Prelude.{ℕ, min, Bool, cond, not, List, [], ◌∷◌, ltb, length, replicate, Some, None, Result, Ok, Err}
use Rattle.clock.specs.declared.Moment.{Moment}
use Rattle.clock.specs.Clock.{is_moment}
use Rattle.octets.specs.Write.{laid}
use Rattle.lease.specs.declared.Lease.{Lease}
use Rattle.lease.specs.declared.Rank.{Rank}
use Rattle.lease.specs.Lease.{active_at}
use Rattle.leasepacket.specs.declared.query.Query.{Query}
use Rattle.leasepacket.specs.declared.query.Query.TheVariants.{ByAddress, ByHardware, ByClientId}
use Rattle.leasepacket.specs.Packet.{part, chaddr}
use Rattle.leasepacket.specs.Reading.{asked_by}
use Rattle.leasepacket.specs.Reading as packet
use Rattle.leasequery.specs.declared.ask.Refusal.{Refusal}
use Rattle.leasequery.specs.declared.ask.Refusal.TheVariants.{NotMoment, BadTable, NoRoom, Packet}
use Rattle.leasepacket.specs.Query.{Asked, refused, first_of, asking}
use Rattle.leasetable.specs.declared.client.Key.{Key}
use Rattle.leasetable.specs.declared.client.Key.TheVariants.{Address, Hardware, ClientId}
use Rattle.leasetable.specs.declared.look.Found.{Found}
use Rattle.leasetable.specs.declared.look.Found.TheVariants.{OfAddress, OfClient}
use Rattle.leasereply.specs.Reply.{other_reply, active_reply, listed, fitting}
use Rattle.leasequery.specs.Answer.{Outcome, reply}

-- octets at the front of 64; of more than 64, none
unfoldable pub padded : List ℕ → List ℕ
padded octets = cond (ltb 64 (length octets)) (replicate 64 0) (laid octets (replicate 64 0))

-- an id over 64 octets has the length 65, which no lease has
unfoldable pub id_key : List ℕ → Key
id_key octets = ClientId (min (length octets) 65) (padded octets)

-- what a query that was read of a packet looks for
abbrev pub key_for : List ℕ → Query → Key
key_for p (ByAddress a) = Address a
key_for p (ByHardware htype hlen) = Hardware htype hlen (padded (chaddr p))
key_for p (ByClientId place) = id_key (part p place.at place.len)

-- the first refusal that applies, or the key, from whether the table keeps its form
unfoldable pub asked_at : Moment → Bool → List ℕ → ℕ → Asked
asked_at clock ok query room =
    first_of ((15, not (is_moment clock)) ∷ (9, not ok) ∷ (8, ltb room 648) ∷ []) (asking query)

-- the number of a refusal
abbrev pub number_of : Refusal → ℕ
number_of NotMoment = 15
number_of BadTable = 9
number_of NoRoom = 8
number_of (Packet r) = packet.number_of r

-- what is asked, from what was read of a packet or the refusal
abbrev pub asked_or_refused : List ℕ → Result Query Refusal → Asked
asked_or_refused query (Ok q) = asked_by query q
asked_or_refused query (Err r) = refused (number_of r)

-- the reply of a kind that tells of no lease, and that which tells of an active one, with the addresses of the first n ranks
abbrev pub other_of : ℕ → ℕ → List ℕ → List ℕ → Outcome
other_of kind server query buffer = reply kind (fitting query buffer (other_reply kind server query))

abbrev pub active_of : Moment → Lease → ℕ → List Rank → ℕ → List ℕ → List ℕ → Outcome
active_of clock x n ranks server query buffer = reply 13 (fitting query buffer (active_reply clock server query x (listed n ranks)))

-- about the record of an address, by whether it is active; it lists no addresses
abbrev pub of_record : Lease → Moment → ℕ → List ℕ → List ℕ → Outcome
of_record x clock server query buffer = cond (active_at clock x) (active_of clock x 0 [] server query buffer) (other_of 11 server query buffer)

-- the answer from what was found; of a client, what is found is not asked whether it is active
unfoldable pub concluded : Moment → Found → ℕ → List ℕ → List ℕ → Outcome
concluded clock (OfAddress None kept ranks) server query buffer = other_of 12 server query buffer
concluded clock (OfAddress (Some x) kept ranks) server query buffer = of_record x clock server query buffer
concluded clock (OfClient None kept ranks) server query buffer = other_of 12 server query buffer
concluded clock (OfClient (Some x) kept ranks) server query buffer = active_of clock x kept ranks server query buffer
