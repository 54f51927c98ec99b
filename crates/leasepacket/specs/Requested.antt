-- Which options a query asks for. Document 02, e); the list of option 55 is the parameter request list of RFC 2132.
use Rattle.std.specs.Prelude.{ℕ, Bool, true, false, not, ◌||◌, List, [], ◌∷◌, eqb, length}
use Rattle.std.proofs.Math.Option.{Option, none, some}
use Rattle.leasepacket.specs.Packet.{parameter_request_list}
use Rattle.leasepacket.specs.Options.{values_in, only_of}

-- The list of a query is there at most once, and has a code. If not, that is refusal 3; in a reply the list means nothing.
abbrev pub list_fits : List (List ℕ) → Bool
list_fits [] = true
list_fits (codes ∷ []) = not (eqb (length codes) 0)
list_fits (codes ∷ more ∷ rest) = false

-- The list, which is the value of its option; none where there is no such option, or more than one.
abbrev pub request_list : List ℕ → Option (List ℕ)
request_list p = only_of (values_in parameter_request_list p)

-- A code stands in a list, once or more often.
unfoldable pub is_listed : ℕ → List ℕ → Bool
is_listed code [] = false
is_listed code (x ∷ xs) = eqb x code || is_listed code xs

-- A query without a list asks for every option, one with a list for those that are listed.
abbrev pub requested_by : ℕ → Option (List ℕ) → Bool
requested_by code none = true
requested_by code (some codes) = is_listed code codes

unfoldable pub is_requested : List ℕ → ℕ → Bool
is_requested p code = requested_by code (request_list p)
