-- What stands at a name of a lent zone. Document 01, "Refusal numbers" and "Zone, requests and jobs".
use Rattle.std.specs.Prelude.{◌≡◌, cond, ◌&&◌, List, [], ◌∷◌, ℕ, eqb, replicate}
use Rattle.std.proofs.Math.Option.{Option, none, some}
use Rattle.octets.specs.Compare.{same_octets}
use Rattle.octets.specs.Count.{Octets}
use Rattle.dname.specs.Name.{name_of, is_full, key}
use Rattle.dname.specs.declared.name.Name.{Name}
use Rattle.zone.specs.Meaning.{used, key_of}
use Rattle.zone.specs.declared.entry.Entry.{Entry}
use Rattle.update.specs.Rules.{Host, at_key}
use Rattle.update.specs.Meaning.{host_of, zone_of}
use Rattle.lentzone.specs.Decode.{entry_in, zone_in, is_zone}
use Rattle.zonefind.specs.declared.FindAnswer.{FindAnswer}

-- The refusals in their order: octets that hold no zone of good form, then a name that is not full. 0 is none.
unfoldable pub find_refusal : List ℕ → Octets → ℕ
find_refusal z name = cond (is_zone z) (cond (is_full name) 0 11) 17

-- A free place with zeros in all its octets.
abbrev pub free_place : Entry
free_place = entry_in (replicate 374 0)

-- The used place with a name's key; where there is none, a free place. In a zone of good form no other place has that key.
unfoldable pub place_with : Octets → List Entry → Entry
place_with k [] = free_place
place_with k (e ∷ es) = cond (used e && same_octets (key_of e) k) e (place_with k es)

-- The place of the name where nothing is refused, every octet of it, else a free place.
unfoldable pub find_entry : List ℕ → Octets → Entry
find_entry z name = cond (eqb (find_refusal z name) 0) (place_with (key name) (zone_in z).entries) free_place

abbrev pub find_answer : List ℕ → Name → FindAnswer
find_answer z n = record { refusal = find_refusal z (name_of n); entry = find_entry z (name_of n) }

-- ---- the claim

-- What a place says of a name: nothing where it is free.
abbrev pub standing : Entry → Option Host
standing e = cond (used e) (some (host_of e)) none

-- Unrefused, the entry says what stands at the name in the zone that the octets hold.
abbrev pub SaysWhatStands : Type 0
SaysWhatStands = (z : List ℕ) (n : Name) → (find_answer z n).refusal ≡ 0 → standing (find_answer z n).entry ≡ at_key (name_of n) (zone_of (zone_in z))
