-- What the places of a zone mean, and the form that they must have. Document 01, "Zone, requests and jobs".
use Rattle.std.specs.Prelude.{Bool, true, cond, not, ◌&&◌, List, [], ◌∷◌, length, ◌==◌, nat_le}
use Rattle.std.proofs.Math.Option.{Option, none, some}
use Rattle.dname.specs.Name.{name_of, is_full, key}
use Rattle.octets.specs.Compare.{same_octets}
use Rattle.octets.specs.Count.{Octets, distinct}
use Rattle.addresses.specs.Addresses.{list4, list6, sound}
use Rattle.addresses.specs.declared.set4.Set4.{Set4}
use Rattle.addresses.specs.declared.set6.Set6.{Set6}
use Rattle.zone.specs.declared.entry.Entry.{Entry}
use Rattle.zone.specs.declared.Zone.{Zone}

-- One place of a zone: free where its kind is 0, and then the rest does not matter. Kind 1 is a static name, whose DHCID does not matter.
unfoldable pub used : Entry → Bool
used e = not (e.kind == 0)

abbrev pub key_of : Entry → Octets
key_of e = key (name_of e.name)

-- What is told of the used place that has a key; none where no used place has it. In a zone of good form no two have it.
unfoldable pub with_key : {A : Type 0} → (Entry → A) → List Entry → Octets → Option A
with_key tells [] k = none
with_key tells (e ∷ es) k = cond (used e && same_octets (key_of e) k) (some (tells e)) (with_key tells es k)

-- The keys of the names that stand at places.
unfoldable pub keys : List Entry → List Octets
keys [] = []
keys (e ∷ es) = cond (used e) (key_of e ∷ keys es) (keys es)

-- ---- the form: what breaks it is refusal 17

-- Sets of both families with at most four addresses each, no two equal.
abbrev pub sound_sets : Set4 → Set6 → Bool
sound_sets v4 v6 = sound v4.count (list4 v4) && sound v6.count (list6 v6)

-- A used place in order: a static (1) or held (2) name that is full, with sound address sets.
unfoldable pub in_order : Entry → Bool
in_order e = nat_le e.kind 2 && (is_full (name_of e.name) && sound_sets e.v4 e.v6)

-- A free place is in order whatever it holds.
unfoldable pub all_in_order : List Entry → Bool
all_in_order [] = true
all_in_order (e ∷ es) = cond (used e) (in_order e) true && all_in_order es

-- There are 64 places, every one is in order, and no two names are equal: two that differ in case alone are.
unfoldable pub formed : Zone → Bool
formed z = length z.entries == 64 && (all_in_order z.entries && distinct (keys z.entries))
