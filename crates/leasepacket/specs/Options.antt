-- The options of a packet. Document 01, "Lease table and queries"; their layout is that of RFC 2132.
use Rattle.std.specs.Prelude.{ℕ, zero, suc, Bool, false, cond, ◌&&◌, List, [], ◌∷◌, leb, eqb, length, get_or, take, drop}
use Rattle.std.proofs.Math.Option.{Option, none, some}
use Rattle.leasepacket.specs.Packet.{option_area, message_type, client_id}

-- An option: its code and its value.
pub record Opt : Type 0 where
  pub code : ℕ
  pub octets : List ℕ

-- The option whose code stands before these octets: a length, and as many octets.
abbrev pub opt : ℕ → List ℕ → Opt
opt code rest = record { code = code; octets = take (get_or rest 0 0) (drop 1 rest) }

-- An option and those behind it, if these can be read.
abbrev pub followed : Opt → Option (List Opt) → Option (List Opt)
followed o none = none
followed o (some os) = some (o ∷ os)

-- The options, or none if they run past the end or have no end option. The number says how many octets are still to pass, since they
-- belong to the option before. 0 is one octet of padding; what follows 255 is ignored. Option 52 is an option like others.
unfoldable pub options : ℕ → List ℕ → Option (List Opt)
options passing [] = none
options (suc passing) (x ∷ rest) = options passing rest
options zero (x ∷ rest) =
    cond (eqb x 255) (some [])
    (cond (eqb x 0) (options 0 rest)
    (followed (opt x rest) (options (suc (get_or rest 0 0)) rest)))

-- The values of the options that have a code.
unfoldable pub values : ℕ → List Opt → List (List ℕ)
values code [] = []
values code (o ∷ os) = cond (eqb o.code code) (o.octets ∷ values code os) (values code os)

-- Those of a packet; where its options can't be read there are none.
abbrev pub values_of : ℕ → Option (List Opt) → List (List ℕ)
values_of code none = []
values_of code (some os) = values code os

abbrev pub values_in : ℕ → List ℕ → List (List ℕ)
values_in code p = values_of code (options 0 (option_area p))

-- The value of an option that is there just once.
abbrev pub only_of : List (List ℕ) → Option (List ℕ)
only_of [] = none
only_of (v ∷ []) = some v
only_of (v ∷ w ∷ vs) = none

-- The options of a packet can be read, with the message type and the client id at most once each. If not, that is refusal 3, of a query and
-- of a reply.
abbrev pub at_most_once : Option (List Opt) → Bool
at_most_once none = false
at_most_once (some os) = leb (length (values message_type os)) 1 && leb (length (values client_id os)) 1

unfoldable pub has_options : List ℕ → Bool
has_options p = at_most_once (options 0 (option_area p))
