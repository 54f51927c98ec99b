-- The addresses of one name. Document 01, "Zone, requests and jobs".
use Rattle.std.specs.Prelude.{◌≡◌, Bool, true, false, cond, not, ◌&&◌, ◌||◌, List, [], ◌∷◌, ◌++◌, map, ℕ, ◌+◌, ◌-◌, ◌≤◌, leb, ltb, length, take, drop, set, replicate}
use Rattle.octets.specs.Compare.{same_octets}
use Rattle.octets.specs.Count.{Octets, member, distinct, without}
use Rattle.addresses.specs.declared.set4.Addr4.{Addr4}
use Rattle.addresses.specs.declared.set4.Set4.{Set4}
use Rattle.addresses.specs.declared.set6.Addr6.{Addr6}
use Rattle.addresses.specs.declared.set6.Set6.{Set6}

-- A name has addresses of two families, of 4 octets and of 16.
pub data Family : Type 0 where
  four six : Family

-- The addresses of one family: how many there are, and which. Two such are equal exactly when the sets are: places don't count.
pub record Addresses : Type 0 where
  pub count : ℕ
  pub has : Octets → Bool

abbrev pub nothing : Addresses
nothing = record { count = 0; has = λ a. false }

-- The set with an address in it.
unfoldable pub including : Octets → Addresses → Addresses
including a s = record { count = cond (s.has a) s.count (s.count + 1); has = λ b. same_octets a b || s.has b }

-- The set without it.
unfoldable pub excluding : Octets → Addresses → Addresses
excluding a s = record { count = cond (s.has a) (s.count - 1) s.count; has = λ b. not (same_octets a b) && s.has b }

-- ---- the structs

-- An address is its octets, four or sixteen.
abbrev pub octets4 : Addr4 → Octets
octets4 a = a.octets

abbrev pub octets6 : Addr6 → Octets
octets6 a = a.octets

-- The addresses of a struct: the first ones of its array, as many as the count says.
abbrev pub list4 : Set4 → List Octets
list4 s = map octets4 (take s.count s.items)

abbrev pub list6 : Set6 → List Octets
list6 s = map octets6 (take s.count s.items)

-- What they mean.
abbrev pub set_of : List Octets → Addresses
set_of l = record { count = length l; has = λ a. member a l }

-- The form: at most four addresses, no two equal.
unfoldable pub sound : ℕ → List Octets → Bool
sound count l = leb count 4 && distinct l

-- ---- for the contracts of inner functions

-- A set as its struct has it, whichever the family: an array and a count.
pub record Counted (A : Type 0) : Type 0 where
  pub items : List A
  pub count : ℕ

abbrev pub counted4 : Set4 → Counted Addr4
counted4 s = record { items = s.items; count = s.count }

abbrev pub counted6 : Set6 → Counted Addr6
counted6 s = record { items = s.items; count = s.count }

-- The elements that the count takes in, and their octets.
abbrev pub held : {A : Type 0} → Counted A → List A
held s = take s.count s.items

abbrev pub listed : {A : Type 0} → (A → Octets) → Counted A → List Octets
listed octets s = map octets (held s)

-- Every address of one list is in another.
unfoldable pub within : List Octets → List Octets → Bool
within [] m = true
within (x ∷ l) m = member x m && within l m

-- No addresses, and zeros in all places.
abbrev pub empty_set4 : Set4
empty_set4 = record { items = replicate 4 (record { octets = replicate 4 0 }); count = 0 }

abbrev pub empty_set6 : Set6
empty_set6 = record { items = replicate 4 (record { octets = replicate 16 0 }); count = 0 }

-- The list with an address more behind the others, unless it is there or there are four.
unfoldable pub joined : Octets → List Octets → List Octets
joined a l = cond (member a l) l (cond (ltb (length l) 4) (l ++ (a ∷ [])) l)

-- The same of the struct: the address is written to the first place behind the others, and no other place changes; a count above four stays.
unfoldable pub added : {A : Type 0} → (A → Octets) → A → Counted A → Counted A
added octets a s =
    cond (member (octets a) (listed octets s)) s (cond (ltb s.count 4) (record { items = set s.items s.count a; count = s.count + 1 }) s)

-- The struct that comes of it, and what follows of its list and its count.
pub record Added {A : Type 0} (octets : A → Octets) (a : A) (s r : Counted A) : Type 0 where
  pub set_is : r ≡ added octets a s
  pub list_is : listed octets r ≡ joined (octets a) (listed octets s)
  pub stays_few : s.count ≤ 4 → r.count ≤ 4

-- The elements without those of one address, in their order.
unfoldable pub others : {A : Type 0} → (A → Octets) → Octets → List A → List A
others octets a [] = []
others octets a (x ∷ l) = cond (same_octets (octets x) a) (others octets a l) (x ∷ others octets a l)

-- The array with these in front, behind them as it was, and a count that takes in these and no more.
abbrev pub in_front : {A : Type 0} → List A → Counted A → Counted A
in_front l s = record { items = l ++ drop (length l) s.items; count = length l }

-- The struct without an address.
unfoldable pub removed : {A : Type 0} → (A → Octets) → A → Counted A → Counted A
removed octets a s = in_front (others octets (octets a) (held s)) s

-- The struct that comes of it, and what follows of its list and its count.
pub record Removed {A : Type 0} (octets : A → Octets) (a : A) (s r : Counted A) : Type 0 where
  pub set_is : r ≡ removed octets a s
  pub list_is : listed octets r ≡ without (octets a) (listed octets s)
  pub is_few : r.count ≤ 4
