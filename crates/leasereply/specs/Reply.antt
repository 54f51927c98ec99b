-- The octets of a reply. Document 01, "Lease table and queries"; document 02, e).
use Rattle.std.specs.Prelude.{ℕ, ◌≤◌, ◌≡◌, Bool, cond, ◌||◌, List, [], ◌∷◌, ◌++◌, map, ltb, eqb, length, get_or, take}
use Rattle.clock.specs.declared.Moment.{Moment}
use Rattle.clock.specs.Clock.{seconds_left, seconds_since}
use Rattle.octets.specs.Number.{big_endian}
use Rattle.octets.specs.Write.{laid}
use Rattle.lease.specs.declared.Lease.{Lease}
use Rattle.lease.specs.declared.Rank.{Rank}
use Rattle.leasepacket.specs.Packet.{part, message_type, client_id, lease_time, server_id, relay_information, last_transaction_time, associated_ip}
use Rattle.leasepacket.specs.declared.requested.Requested.{Requested}
use Rattle.leasepacket.specs.Layout.{fixed_fields, encoded}
use Rattle.leasepacket.specs.ReplyOptions.{in_kind, held, sent_by}

-- op 2; xid, flags and giaddr copied from the query; the other fields zero, but for those given.
unfoldable pub fixed : List ℕ → ℕ → ℕ → List ℕ → List ℕ → List ℕ
fixed query htype hlen ciaddr chaddr = fixed_fields 2 htype hlen (part query 4 4) (part query 10 2) ciaddr (part query 24 4) chaddr

-- The options of a reply of a kind, by what there is to say under each code, then 255. Which of them go out, and in which order, is the
-- table's to say (crates/leasepacket/specs/ReplyOptions.antt).
unfoldable pub options_of : ℕ → List ℕ → (ℕ → List ℕ) → List ℕ
options_of kind query said = encoded (sent_by query said (in_kind kind)) ++ (255 ∷ [])

-- In any kind: the kind, and the server's address.
unfoldable pub of_server : ℕ → ℕ → ℕ → List ℕ
of_server kind server code = cond (eqb code message_type) (kind ∷ []) (cond (eqb code server_id) (big_endian 4 server) [])

-- Addresses, each of four octets.
unfoldable pub flat : List ℕ → List ℕ
flat [] = []
flat (a ∷ rest) = big_endian 4 a ++ flat rest

-- Of an active lease besides: 51, seconds to expiry; 61 and 82 if the record has them; 91, seconds since the last transaction; 92, the
-- addresses given, if any.
unfoldable pub of_lease : Moment → ℕ → Lease → List ℕ → ℕ → List ℕ
of_lease clock server x addresses code =
    cond (eqb code lease_time) (big_endian 4 (seconds_left x.expiry clock).0)
    (cond (eqb code client_id) (take x.idlen x.id)
    (cond (eqb code relay_information) (take x.relaylen x.relay)
    (cond (eqb code last_transaction_time) (big_endian 4 (seconds_since x.last clock).0)
    (cond (eqb code associated_ip) (flat addresses) (of_server 13 server code)))))

-- LEASEUNASSIGNED (11) and LEASEUNKNOWN (12): ciaddr, htype, hlen and chaddr from the query.
unfoldable pub other_reply : ℕ → ℕ → List ℕ → List ℕ
other_reply kind server query =
    fixed query (get_or query 1 0) (get_or query 2 0) (part query 12 4) (part query 28 16) ++ options_of kind query (of_server kind server)

-- LEASEACTIVE (13): ciaddr, htype, hlen and all 16 octets of chaddr from the record.
unfoldable pub active_reply : Moment → ℕ → List ℕ → Lease → List ℕ → List ℕ
active_reply clock server query x addresses =
    fixed query x.htype x.hlen (big_endian 4 x.address) (take 16 x.chaddr) ++ options_of 13 query (of_lease clock server x addresses)

-- ---- for the contracts of functions that are not exported

-- The addresses of ranks.
abbrev pub addresses_of : List Rank → List ℕ
addresses_of ranks = map (λ r. r.address) ranks

-- Those of the first n ranks that a scan kept, if they are two or more, and at most 63.
abbrev pub listed : ℕ → List Rank → List ℕ
listed n ranks = cond (ltb n 2 || ltb 63 n) [] (addresses_of (take n ranks))

-- An option, if it is asked for.
abbrev pub asked : Bool → ℕ → List ℕ → List ℕ
asked b code value = encoded (cond b (held code value) [])

-- What tells of a lease, by what is asked for.
unfoldable pub about_lease : Moment → Lease → Requested → List ℕ
about_lease clock x r =
    asked r.seconds_left lease_time (big_endian 4 (seconds_left x.expiry clock).0)
    ++ asked r.client_id client_id (take x.idlen x.id)
    ++ asked r.relay_information relay_information (take x.relaylen x.relay)
    ++ asked r.seconds_since last_transaction_time (big_endian 4 (seconds_since x.last clock).0)

-- What is written: the octets, if query and buffer are long enough.
abbrev pub fitting : List ℕ → List ℕ → List ℕ → List ℕ
fitting query buffer octets = cond (ltb (length query) 240 || ltb (length buffer) 648) [] octets

-- What a writer of such octets answers, their number, and what the buffer holds then.
pub record Wrote (query before octets : List ℕ) (n : ℕ) (after : List ℕ) : Type 0 where
  pub answers : n ≡ length (fitting query before octets)
  pub holds : after ≡ laid (fitting query before octets) before
  pub few : n ≤ 648
