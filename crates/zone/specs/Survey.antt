-- What the walk over the places finds. No promise of an exported call cites these.
use Rattle.std.specs.Prelude.{◌≡◌, ℕ, zero, suc, ◌+◌, ◌-◌, ◌*◌, ◌/◌, ◌%◌, ◌^◌, ◌<◌, Bool, false, cond, not, ◌&&◌, ◌||◌, List, [], ◌∷◌, length, ◌==◌, nat_lt, slice_index, slice_index_or, Option, Some, None}
use Rattle.octets.specs.Word.{value, caseless}
use Rattle.dname.specs.Name.{key, same_name, name_of}
use Rattle.octets.specs.Count.{Octets, distinct}
use Rattle.zone.specs.declared.entry.Entry.{Entry}
use Rattle.zone.specs.declared.Zone.{Zone}
use Rattle.zone.specs.declared.survey.Survey.{Survey}
use Rattle.zone.specs.declared.survey.Visit.{Visit}
use Rattle.zone.specs.declared.entry.Records.{Records}
use Rattle.dname.specs.declared.name.Name.{Name}
use Rattle.zone.specs.Meaning.{used, keys, all_in_order}

-- ---- fingerprints: equal names have equal ones, since no octet counts with the bit that tells a capital letter

-- a number of 64 bits folded into 32
unfoldable pub folded : ℕ → ℕ
folded x = (x % 4294967296 + x / 4294967296 * 40503) % 4294967296

-- an octet of a string without that bit
abbrev pub caseless_at : List ℕ → ℕ → ℕ
caseless_at s i = caseless (slice_index s i)

-- the eight octets from a place on as one number
unfoldable pub word_at : List ℕ → ℕ → ℕ
word_at s i = value (caseless_at s i ∷ caseless_at s (i + 1) ∷ caseless_at s (i + 2) ∷ caseless_at s (i + 3) ∷ caseless_at s (i + 4) ∷ caseless_at s (i + 5) ∷ caseless_at s (i + 6) ∷ caseless_at s (i + 7) ∷ [])

abbrev pub wrapped : ℕ → ℕ
wrapped x = x % 2 ^ 64

-- of a long name the first words count, so that it takes no longer than one of 128 octets
unfoldable pub few_words : ℕ → ℕ
few_words n = cond (nat_lt n 15) n 15

-- n words one behind the other from a place on, and the last eight octets: their sum, and the sum of its running sums
unfoldable pub fingerprint_from : ℕ → ℕ → ℕ → ℕ → List ℕ → ℕ
fingerprint_from zero i sum sums s = folded (wrapped (sums + wrapped (sum + word_at s (length s - 8))))
fingerprint_from (suc n) i sum sums s = fingerprint_from n (i + 8) (wrapped (sum + word_at s i)) (wrapped (sums + wrapped (sum + word_at s i))) s

-- four to seven octets: the first four and the last four as one number
unfoldable pub ends_of : Octets → ℕ
ends_of s = value (caseless_at s 0 ∷ caseless_at s 1 ∷ caseless_at s 2 ∷ caseless_at s 3 ∷ caseless_at s (length s - 4) ∷ caseless_at s (length s - 3) ∷ caseless_at s (length s - 2) ∷ caseless_at s (length s - 1) ∷ [])

-- fewer than four octets, names of one label of one octet, have none of their own
unfoldable pub fingerprint_words : Octets → ℕ
fingerprint_words s = cond (nat_lt (length s) 8) (cond (nat_lt (length s) 4) 0 (folded (ends_of s))) (fingerprint_from (few_words ((length s - 1) / 8)) 0 0 0 s)

abbrev pub fingerprint_of : Octets → ℕ
fingerprint_of name = fingerprint_words (key name)

unfoldable pub among : ℕ → List ℕ → Bool
among x [] = false
among x (y ∷ l) = y == x || among x l

-- which of 1,024 marks a fingerprint has
unfoldable pub mark_of : ℕ → ℕ
mark_of x = x * 2654435769 / 4194304 % 1024

unfoldable pub repeated : List ℕ → Bool
repeated [] = false
repeated (x ∷ l) = among x l || repeated l

-- ---- one place

-- a place by its name and what stands there, and what stands there
abbrev pub place_of : Name → Records → Entry
place_of n r = record { kind = r.kind; name = n; dhcid = r.dhcid; v4 = r.v4; v6 = r.v6 }

abbrev pub records_of : Entry → Records
records_of e = record { kind = e.kind; dhcid = e.dhcid; v4 = e.v4; v6 = e.v6 }

unfoldable pub named : Octets → Entry → Bool
named n e = used e && same_name (name_of e.name) n

-- ---- the places of a zone

-- the last place where a test holds, counted from i; where there is none, what is given
unfoldable pub place_from : {A : Type 0} → (A → Bool) → ℕ → Option ℕ → List A → Option ℕ
place_from p i otherwise [] = otherwise
place_from p i otherwise (x ∷ l) = place_from p (suc i) (cond (p x) (Some i) otherwise) l

pub record Found (z : Zone) (n : Octets) (s : Survey) : Type 0 where
  pub places_are : length z.entries ≡ 64
  pub order_is : s.inorder ≡ all_in_order z.entries
  pub found_is : s.found ≡ place_from (named n) 0 None z.entries
  pub free_is : s.free ≡ place_from (λ (e : Entry). not (used e)) 0 None z.entries

pub record Surveyed (z : Zone) (n : Octets) (s : Survey) : Type 0 where
  pub places : Found z n s
  pub distinct_is : s.distinct ≡ distinct (keys z.entries)

-- with what stands at the place of the name
pub record Visited (z : Zone) (n : Octets) (v : Visit) : Type 0 where
  pub surveyed : Surveyed z n v.survey
  pub entry_is : (d : Entry) (place : ℕ) → v.survey.found ≡ Some place → v.entry ≡ slice_index_or z.entries place d
