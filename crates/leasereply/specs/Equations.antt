-- The options of a reply written out, by which a reader may check their definition. Document 01, "Lease table and queries"; document 02, e).
use Rattle.std.specs.Prelude.{ℕ, ◌≡◌, cond, List, [], ◌∷◌, ◌++◌, take}
use Rattle.std.proofs.Math.Option.{none, some}
use Rattle.clock.specs.declared.Moment.{Moment}
use Rattle.clock.specs.Clock.{seconds_left, seconds_since}
use Rattle.octets.specs.Number.{big_endian}
use Rattle.lease.specs.declared.Lease.{Lease}
use Rattle.leasepacket.specs.Layout.{option}
use Rattle.leasepacket.specs.Requested.{request_list, is_listed}
use Rattle.leasereply.specs.Reply.{options_of, of_server, of_lease, flat}

-- An option that is left out where its value is empty.
abbrev pub optional : ℕ → List ℕ → List ℕ
optional code [] = []
optional code (x ∷ xs) = option code (x ∷ xs)

-- What goes out under a code if a list has it.
abbrev pub if_listed : List ℕ → ℕ → List ℕ → List ℕ
if_listed codes code octets = cond (is_listed code codes) octets []

pub record Equations : Type 0 where
  -- No lease is active: 53, 54, 255, whatever is listed.
  pub other : (kind server : ℕ) (query : List ℕ) → options_of kind query (of_server kind server) ≡ option 53 (kind ∷ []) ++ option 54 (big_endian 4 server) ++ (255 ∷ [])
  -- A lease is active, and the query has no list: all that there is.
  pub in_full : (clock : Moment) (server : ℕ) (query : List ℕ) (x : Lease) (addresses : List ℕ) → request_list query ≡ none
      → options_of 13 query (of_lease clock server x addresses)
      ≡ option 53 (13 ∷ []) ++ option 54 (big_endian 4 server)
      ++ (option 51 (big_endian 4 (seconds_left x.expiry clock).0)
      ++ optional 61 (take x.idlen x.id)
      ++ optional 82 (take x.relaylen x.relay)
      ++ option 91 (big_endian 4 (seconds_since x.last clock).0))
      ++ optional 92 (flat addresses) ++ (255 ∷ [])
  -- A lease is active, and the query has a list: of 51, 61, 82 and 91 those that it lists.
  pub as_listed : (clock : Moment) (server : ℕ) (query codes : List ℕ) (x : Lease) (addresses : List ℕ) → request_list query ≡ some codes
      → options_of 13 query (of_lease clock server x addresses)
      ≡ option 53 (13 ∷ []) ++ option 54 (big_endian 4 server)
      ++ (if_listed codes 51 (option 51 (big_endian 4 (seconds_left x.expiry clock).0))
      ++ if_listed codes 61 (optional 61 (take x.idlen x.id))
      ++ if_listed codes 82 (optional 82 (take x.relaylen x.relay))
      ++ if_listed codes 91 (option 91 (big_endian 4 (seconds_since x.last clock).0)))
      ++ optional 92 (flat addresses) ++ (255 ∷ [])
