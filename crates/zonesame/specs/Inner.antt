-- What inner functions promise. No promise of an exported call cites these.
use Rattle.std.specs.Prelude.{◌≡◌, Bool, true, false, cond, ◌&&◌, List, [], ◌∷◌, ℕ, ◌<◌, eqb, length, get_or, Option, Some, None}
use Rattle.octets.specs.Compare.{same_octets}
use Rattle.octets.specs.Count.{Octets}
use Rattle.addresses.specs.Addresses.{list4, list6, within}
use Rattle.dname.specs.Name.{name_of}
use Rattle.zone.specs.declared.entry.Entry.{Entry}
use Rattle.zone.specs.declared.entry.Records.{Records}
use Rattle.zone.specs.Meaning.{used}
use Rattle.zone.specs.Survey.{fingerprint_words, records_of}
use Rattle.lentzone.specs.Decode.{part, entry_in}
use Rattle.lentzone.specs.Inner.{place_in, row_at, records_at, name_at}

-- a test tells whether a claim holds
pub record Tells (claim : Type 0) (r : Bool) : Type 0 where
  pub told : r ≡ true → claim
  pub tells : claim → r ≡ true

-- ---- the fingerprints of names

-- the names of the first n places have theirs; at a free place any number stands
pub record Fingerprints (z f : List ℕ) (n : ℕ) : Type 0 where
  pub size : length f ≡ 64
  pub each : (place : ℕ) → place < n → used (entry_in (row_at z place)) ≡ true → get_or f place 0 ≡ fingerprint_words (name_of (name_at z place))

-- ---- one place

-- a name of these very octets stands there
unfoldable pub spelled_so : Octets → Entry → Bool
spelled_so n e = used e && same_octets (name_of e.name) n

-- ---- what stands at two names

unfoldable pub same_owner : Records → Records → Bool
same_owner a b = cond (eqb a.kind 1) (eqb b.kind 1) (cond (eqb b.kind 1) false (same_octets a.dhcid.octets b.dhcid.octets))

-- each has every address of the other
unfoldable pub same_lists : List Octets → List Octets → Bool
same_lists l m = within l m && within m l

unfoldable pub same_host : Records → Records → Bool
same_host a b = same_owner a b && (same_lists (list4 a.v4) (list4 b.v4) && same_lists (list6 a.v6) (list6 b.v6))

-- two places of 374 octets have the same kind, and the same octets behind the name
unfoldable pub same_place : List ℕ → List ℕ → Bool
same_place a b = eqb (get_or a 0 0) (get_or b 0 0) && same_octets (part 257 117 a) (part 257 117 b)

-- ---- all that stands in a zone

-- what stands at a place of the zone that the octets hold is the same; nothing is where there is no place
abbrev pub same_at : List ℕ → Entry → Option ℕ → Bool
same_at z e None = false
same_at z e (Some place) = same_host (records_of e) (records_at z place)

-- what stands at a place stands at its name in the zone that the octets hold
unfoldable pub stands_in : List ℕ → Entry → Bool
stands_in z e = same_at z e (place_in z (name_of e.name))

-- so it is at every used place
unfoldable pub all_stand : List ℕ → List Entry → Bool
all_stand z [] = true
all_stand z (e ∷ es) = cond (used e) (stands_in z e) true && all_stand z es
