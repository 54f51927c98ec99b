-- The zone that lent octets hold. They are laid out as the C struct is, whose fields are all octets, so that it has no gaps: each field stands
-- right behind the one before it, in the order of its declaration.
use Rattle.std.specs.Prelude.{◌≡◌, Bool, ◌&&◌, List, [], ◌∷◌, map, ℕ, zero, suc, ◌+◌, ◌*◌, eqb, length, get_or, take, drop}
use Rattle.addresses.specs.declared.set4.Addr4.{Addr4}
use Rattle.addresses.specs.declared.set4.Set4.{Set4}
use Rattle.addresses.specs.declared.set6.Addr6.{Addr6}
use Rattle.addresses.specs.declared.set6.Set6.{Set6}
use Rattle.zone.specs.Meaning.{formed}
use Rattle.zone.specs.declared.entry.Entry.{Entry}
use Rattle.zone.specs.declared.Zone.{Zone}

-- The n octets from a place on.
unfoldable pub part : ℕ → ℕ → List ℕ → List ℕ
part from n s = take n (drop from s)

abbrev pub addr4 : List ℕ → Addr4
addr4 o = record { octets = o }

abbrev pub addr6 : List ℕ → Addr6
addr6 o = record { octets = o }

-- The addresses of one family: four of them, and how many count.
abbrev pub set4_in : List ℕ → Set4
set4_in s = record { items = addr4 (part 0 4 s) ∷ addr4 (part 4 4 s) ∷ addr4 (part 8 4 s) ∷ addr4 (part 12 4 s) ∷ []; count = get_or s 16 0 }

abbrev pub set6_in : List ℕ → Set6
set6_in s = record { items = addr6 (part 0 16 s) ∷ addr6 (part 16 16 s) ∷ addr6 (part 32 16 s) ∷ addr6 (part 48 16 s) ∷ []; count = get_or s 64 0 }

-- One place, 374 octets: its kind, the 255 octets and the length of its name, its DHCID, the addresses of family 4 and those of family 6.
abbrev pub entry_in : List ℕ → Entry
entry_in s = record { kind = get_or s 0 0; name = record { octets = part 1 255 s; len = get_or s 256 0 }; dhcid = record { octets = part 257 35 s }; v4 = set4_in (part 292 17 s); v6 = set6_in (part 309 65 s) }

-- A string cut into n rows of so many octets each.
unfoldable pub rows : ℕ → ℕ → List ℕ → List (List ℕ)
rows width zero s = []
rows width (suc n) s = take width s ∷ rows width n (drop width s)

-- The zone in 23,936 octets: 64 places, one behind the other. Of any other number of octets no promise looks at it.
unfoldable pub zone_in : List ℕ → Zone
zone_in s = record { entries = map entry_in (rows 374 64 s) }

-- Octets that hold a zone of good form, as document 01, "Zone, requests and jobs", has it: 23,936 of them, and nothing in the zone that
-- breaks the form. Anything else is refusal 17.
unfoldable pub is_zone : List ℕ → Bool
is_zone z = eqb (length z) 23936 && formed (zone_in z)

-- No octet is another but those of one place: all before it and all behind it are as they were.
pub record OnePlace (z after : List ℕ) : Type 0 where
  pub place : ℕ
  pub before : take (place * 374) after ≡ take (place * 374) z
  pub behind : drop (place * 374 + 374) after ≡ drop (place * 374 + 374) z
