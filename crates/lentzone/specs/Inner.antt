-- What inner functions promise. No promise of an exported call cites these.
use Rattle.std.specs.Prelude.{◌≡◌, false, cond, ◌&&◌, List, [], ◌∷◌, ◌++◌, map, ℕ, ◌*◌, ◌≤◌, eqb, ltb, length, set, take, drop, replicate, Option, None}
use Rattle.octets.specs.Write.{Laid, WroteIf}
use Rattle.addresses.specs.Addresses.{octets4, octets6, Counted}
use Rattle.dname.specs.declared.name.Name.{Name}
use Rattle.zone.specs.declared.entry.Entry.{Entry}
use Rattle.zone.specs.declared.entry.Records.{Records}
use Rattle.zone.specs.declared.survey.Survey.{Survey}
use Rattle.dname.specs.Name.{name_of}
use Rattle.zone.specs.Meaning.{in_order}
use Rattle.zone.specs.Survey.{fingerprint_words, named, place_from, records_of, Surveyed}
use Rattle.lentzone.specs.declared.look.Look.{Look}
use Rattle.lentzone.specs.Decode.{entry_in, zone_in, OnePlace}
use Rattle.lentzone.specs.Encode.{joined, set4_octets, set6_octets, entry_octets, Wide, SizedEntry}

-- what a used place comes to
pub record Looked (n : List ℕ) (e : Entry) (r : Look) : Type 0 where
  pub fingerprint_is : r.fingerprint ≡ fingerprint_words (name_of e.name)
  pub order_is : r.fine ≡ in_order e
  pub named_is : r.named ≡ named n e

-- a survey of the zone that the octets hold; nothing is found where they hold none
abbrev pub no_survey : Survey
no_survey = record { inorder = false; distinct = false; found = None; free = None }

pub record SurveyedIn (z : List ℕ) (n : List ℕ) (r : Survey) : Type 0 where
  pub surveyed : length z ≡ 23936 → Surveyed (zone_in z) n r
  pub otherwise : ¬ (length z ≡ 23936) → r ≡ no_survey

-- the place of a name; none where it is absent or the octets hold no zone
unfoldable pub place_in : List ℕ → List ℕ → Option ℕ
place_in z n = cond (eqb (length z) 23936) (place_from (named n) 0 None (zone_in z).entries) None

-- ---- one place read

-- its octets; zeros where there is no such place
unfoldable pub row_at : List ℕ → ℕ → List ℕ
row_at z place = cond (eqb (length z) 23936 && ltb place 64) (take 374 (drop (place * 374) z)) (replicate 374 0)

abbrev pub records_at : List ℕ → ℕ → Records
records_at z place = records_of (entry_in (row_at z place))

abbrev pub name_at : List ℕ → ℕ → Name
name_at z place = (entry_in (row_at z place)).name

-- ---- octets written

-- what stands behind a name, and that its arrays have the lengths of the structs
abbrev pub records_octets : Records → List ℕ
records_octets r = r.dhcid.octets ++ (set4_octets r.v4 ++ set6_octets r.v6)

pub record SizedRecords (r : Records) : Type 0 where
  pub dhcid : length r.dhcid.octets ≡ 35
  pub v4 : Wide 4 4 (map octets4 r.v4.items)
  pub v6 : Wide 16 4 (map octets6 r.v6.items)

pub record PutAddress (n : ℕ) (ys b : List ℕ) (at : ℕ) (after : List ℕ) (end : ℕ) : Type 0 where
  pub size : length ys ≡ n
  pub wrote : Laid b at ys after end

pub record PutSet {A : Type 0} (width : ℕ) (octets : A → List ℕ) (s : Counted A) (b : List ℕ) (at : ℕ) (after : List ℕ) (end : ℕ) : Type 0 where
  pub sized : Wide width 4 (map octets s.items)
  pub wrote : WroteIf b at (joined (map octets s.items) (s.count ∷ [])) after end

pub record PutRecords (r : Records) (b : List ℕ) (at : ℕ) (after : List ℕ) (end : ℕ) : Type 0 where
  pub sized : SizedRecords r
  pub wrote : WroteIf b at (records_octets r) after end

pub record PutEntry (e : Entry) (b : List ℕ) (at : ℕ) (after : List ℕ) (end : ℕ) : Type 0 where
  pub sized : SizedEntry e
  pub wrote : WroteIf b at (entry_octets e) after end

-- one place written; nothing where there is no such place, or no zone
pub record Written (z : List ℕ) (place : ℕ) (e : Entry) (after : List ℕ) : Type 0 where
  pub size : length after ≡ length z
  pub no_zone : ¬ (length z ≡ 23936) → after ≡ z
  pub stays : 64 ≤ place → after ≡ z
  pub elsewhere : OnePlace z after
  pub writes : length z ≡ 23936 → zone_in after ≡ record { entries = set (zone_in z).entries place e }
