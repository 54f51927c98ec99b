-- Strings of octets in a list, and how many there are of a kind. Document 01, "Zone, requests and jobs", counts names and addresses.
use Rattle.std.specs.Prelude.{◌≡◌, Bool, true, false, cond, not, ◌&&◌, ◌||◌, List, [], ◌∷◌, ℕ, length}
use Rattle.octets.specs.Compare.{same_octets}

-- Names, DHCIDs and addresses are strings of octets.
abbrev pub Octets : Type 0
Octets = List ℕ

unfoldable pub member : Octets → List Octets → Bool
member a [] = false
member a (x ∷ l) = same_octets x a || member a l

-- No two are equal.
unfoldable pub distinct : List Octets → Bool
distinct [] = true
distinct (x ∷ l) = not (member x l) && distinct l

-- n is the number of the strings of which p holds: some list has each of them once, and nothing else.
pub record Counts (n : ℕ) (p : Octets → Bool) : Type 0 where
  pub list : List Octets
  pub once : distinct list ≡ true
  pub number : length list ≡ n
  pub exactly : (a : Octets) → p a ≡ member a list

-- The list without a string.
unfoldable pub without : Octets → List Octets → List Octets
without a [] = []
without a (x ∷ l) = cond (same_octets x a) (without a l) (x ∷ without a l)
