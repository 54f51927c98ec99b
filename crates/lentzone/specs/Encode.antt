-- The octets of a zone by value, in the layout of the C struct: its fields one behind the other.
use Rattle.std.specs.Prelude.{◌≡◌, List, [], ◌∷◌, ◌++◌, map, ℕ, zero, suc, length}
use Rattle.addresses.specs.Addresses.{octets4, octets6}
use Rattle.addresses.specs.declared.set4.Set4.{Set4}
use Rattle.addresses.specs.declared.set6.Set6.{Set6}
use Rattle.zone.specs.declared.entry.Entry.{Entry}
use Rattle.zone.specs.declared.Zone.{Zone}
use Rattle.lentzone.specs.Decode.{zone_in}

-- Strings one behind the other, and these octets after them.
abbrev pub joined : List (List ℕ) → List ℕ → List ℕ
joined [] l = l
joined (o ∷ os) l = o ++ joined os l

abbrev pub set4_octets : Set4 → List ℕ
set4_octets s = joined (map octets4 s.items) (s.count ∷ [])

abbrev pub set6_octets : Set6 → List ℕ
set6_octets s = joined (map octets6 s.items) (s.count ∷ [])

abbrev pub entry_octets : Entry → List ℕ
entry_octets e = e.kind ∷ (e.name.octets ++ (e.name.len ∷ (e.dhcid.octets ++ (set4_octets e.v4 ++ set6_octets e.v6))))

unfoldable pub entries_octets : List Entry → List ℕ
entries_octets [] = []
entries_octets (e ∷ es) = entry_octets e ++ entries_octets es

abbrev pub octets_of : Zone → List ℕ
octets_of z = entries_octets z.entries

-- ---- the sizes of the arrays

-- So many strings of w octets.
abbrev pub Wide : ℕ → ℕ → List (List ℕ) → Type 0
Wide w zero [] = Unit
Wide w zero (o ∷ os) = ⊥
Wide w (suc n) [] = ⊥
Wide w (suc n) (o ∷ os) = (length o ≡ w) × Wide w n os

-- Arrays have the lengths that the structs give them; of a value that runs this is so.
pub record SizedEntry (e : Entry) : Type 0 where
  pub name : length e.name.octets ≡ 255
  pub dhcid : length e.dhcid.octets ≡ 35
  pub v4 : Wide 4 4 (map octets4 e.v4.items)
  pub v6 : Wide 16 4 (map octets6 e.v6.items)

abbrev pub SizedEntries : ℕ → List Entry → Type 0
SizedEntries zero [] = Unit
SizedEntries zero (e ∷ es) = ⊥
SizedEntries (suc n) [] = ⊥
SizedEntries (suc n) (e ∷ es) = SizedEntry e × SizedEntries n es

-- ---- the claims

-- The octets hold this zone: as many as the struct has, and its fields in their places.
pub record Holds (octets : List ℕ) (z : Zone) : Type 0 where
  pub size : length octets ≡ 23936
  pub zone_is : zone_in octets ≡ z

-- Every zone whose arrays have the lengths of the struct has octets that hold it.
abbrev pub EveryZoneIsHeld : Type 0
EveryZoneIsHeld = (z : Zone) → SizedEntries 64 z.entries → Holds (octets_of z) z

-- No two strings of octets hold one zone.
abbrev pub HeldOnce : Type 0
HeldOnce = (s t : List ℕ) (z : Zone) → Holds s z → Holds t z → s ≡ t
