-- A router's option area and what an option of it says. Document 01, "Server list"; the layout is that of RFC 5006, section 5.1.
use Rattle.std.specs.Prelude.{Bool, true, false, cond, ◌&&◌, List, [], ◌∷◌, ℕ, zero, suc, ◌+◌, ◌-◌, ◌*◌, ◌/◌, ◌%◌, min, leb, eqb, length, take, drop, get_or}
use Rattle.octets.specs.Number.{number_at}
use Rattle.clock.specs.Clock.{span}
use Rattle.clock.specs.declared.Span.{Span}
use Rattle.serverlist.specs.declared.Address6.{Address6}

-- An option is Type, Length in units of 8 octets, and its value. The walks below go over an area octet by octet: the number is how many octets
-- of the option at hand are still to come, 0 where an option starts. Of an option of Length n + 1 there are 6 + 8 n octets behind the first two.
-- Grammar.antt says the same without a count.

-- Refusal 16: no option has Length 0 or runs past the end.
unfoldable pub is_whole : ℕ → List ℕ → Bool
is_whole zero [] = true
is_whole (suc k) [] = false
is_whole (suc k) (x ∷ s) = is_whole k s
is_whole zero (t ∷ []) = false
is_whole zero (t ∷ zero ∷ s) = false
is_whole zero (t ∷ suc n ∷ s) = is_whole (6 + 8 * n) s

-- The options of such an area, each with all its octets.
unfoldable pub options : ℕ → List ℕ → List (List ℕ)
options zero [] = []
options (suc k) [] = []
options (suc k) (x ∷ s) = options k s
options zero (t ∷ []) = []
options zero (t ∷ zero ∷ s) = []
options zero (t ∷ suc n ∷ s) = (t ∷ suc n ∷ take (6 + 8 * n) s) ∷ options (6 + 8 * n) s

-- Refusal 16: an area has at most 1,500 octets.
abbrev pub most_octets : ℕ
most_octets = 1500

unfoldable pub is_area : List ℕ → Bool
is_area area = leb (length area) most_octets && is_whole 0 area

abbrev pub type_of : List ℕ → ℕ
type_of option = get_or option 0 0

abbrev pub length_of : List ℕ → ℕ
length_of option = get_or option 1 0

-- The Type of an option that names DNS servers.
abbrev pub servers_type : ℕ
servers_type = 25

-- Only Type 25 with odd Length of at least 3 acts.
unfoldable pub is_acting : List ℕ → Bool
is_acting option = eqb (type_of option) servers_type && leb 3 (length_of option) && eqb (length_of option % 2) 1

-- The Lifetime is octets 4 to 7.
abbrev pub lifetime_of : List ℕ → Span
lifetime_of option = span (number_at 4 option 4)

-- As many addresses as asked for, each of 16 octets, one behind the other.
unfoldable pub addresses_from : ℕ → List ℕ → List Address6
addresses_from zero s = []
addresses_from (suc n) s = record { octets = take 16 s } ∷ addresses_from n (drop 16 s)

-- How many addresses count: an option of Length n has (n - 1) / 2 of them, and only the first three count.
abbrev pub counted : ℕ
counted = 3

abbrev pub address_count : List ℕ → ℕ
address_count option = min ((length_of option - 1) / 2) counted

-- The addresses that count; they start at octet 8.
abbrev pub addresses : List ℕ → List Address6
addresses option = addresses_from (address_count option) (drop 8 option)

-- The addresses that an option names: those that count, if it acts.
unfoldable pub named_by : List ℕ → List Address6
named_by option = cond (is_acting option) (addresses option) []
