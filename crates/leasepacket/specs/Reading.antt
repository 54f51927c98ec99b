-- What `query::read` answers: what a packet asks for, with a client id told by its place; and what `requested::read` answers.
use Rattle.std.specs.Prelude.{ℕ, cond, eqb, List, length, Result, Ok, Err}
use Rattle.std.proofs.Math.Option.{Option}
use Rattle.leasepacket.specs.declared.query.Query.{Query}
use Rattle.leasepacket.specs.declared.query.Query.TheVariants.{ByAddress, ByHardware, ByClientId}
use Rattle.leasepacket.specs.declared.query.Refusal.{Refusal}
use Rattle.leasepacket.specs.declared.query.Refusal.TheVariants.{NotPacket, NotRequest, BadOptions, NotQuery, NoRelay, NotOneKey, BadLength}
use Rattle.leasepacket.specs.declared.requested.Requested.{Requested}
use Rattle.leasepacket.specs.Packet.{part, chaddr, client_id, lease_time, relay_information, last_transaction_time}
use Rattle.leasepacket.specs.Occurrence.{place_of}
use Rattle.leasepacket.specs.Requested.{requested_by}
use Rattle.leasepacket.specs.Query.{Asked, refused, by_address, by_hardware, by_client_id, asking}

-- Where the value of the client id stands in a packet.
abbrev pub id_place : List ℕ → ℕ
id_place p = place_of client_id p

-- The refusals by their numbers, and the number of each. No packet gets another number than these.
abbrev pub refusal_of : ℕ → Refusal
refusal_of n =
    cond (eqb n 1) NotPacket
    (cond (eqb n 2) NotRequest
    (cond (eqb n 3) BadOptions (cond (eqb n 4) NotQuery (cond (eqb n 5) NoRelay (cond (eqb n 6) NotOneKey BadLength)))))

abbrev pub number_of : Refusal → ℕ
number_of NotPacket = 1
number_of NotRequest = 2
number_of BadOptions = 3
number_of NotQuery = 4
number_of NoRelay = 5
number_of NotOneKey = 6
number_of BadLength = 7

-- What is asked for, with a client id at a place.
abbrev pub read_at : ℕ → Asked → Result Query Refusal
read_at at (refused n) = Err (refusal_of n)
read_at at (by_address a) = Ok (ByAddress a)
read_at at (by_hardware htype hlen octets) = Ok (ByHardware htype hlen)
read_at at (by_client_id octets) = Ok (ByClientId (record { at = at; len = length octets }))

unfoldable pub reading : List ℕ → Result Query Refusal
reading p = read_at (id_place p) (asking p)

-- What a packet that was read so asks for; of `reading` this gives `asking` again (`read_asks` in proofs/ReadingLaws.antt).
abbrev pub asked_by : List ℕ → Query → Asked
asked_by p (ByAddress a) = by_address a
asked_by p (ByHardware htype hlen) = by_hardware htype hlen (chaddr p)
asked_by p (ByClientId place) = by_client_id (part p place.at place.len)

abbrev pub asked : List ℕ → Result Query Refusal → Asked
asked p (Ok query) = asked_by p query
asked p (Err refusal) = refused (number_of refusal)

-- Which of the options that go out only if they are asked for a packet asks for, by its list.
abbrev pub requested_in : Option (List ℕ) → Requested
requested_in list =
    record {
      seconds_left = requested_by lease_time list;
      client_id = requested_by client_id list;
      relay_information = requested_by relay_information list;
      seconds_since = requested_by last_transaction_time list;
    }
