-- Zones as structs: pipe held by X, in whatever letters and with whatever addresses; those of P12 among them, and the one without a name. Assumes nothing.
use mathlib.Core.Path.{◌≡◌, refl, ◌∙◌, ap, fun_ext}
use mathlib.Core.Bool.{true, cond}
use mathlib.Core.List.{◌∷◌, ◌++◌, map}
use mathlib.Core.Option.{none, some}
use Prim.Native.Nat.{ℕ}
use lib.Dec.{ltb}
use lib.ListN.{length, replicate}
use Rattle.octets.specs.Compare.{same_octets}
use Rattle.octets.specs.Count.{Octets, member, distinct}
use Rattle.addresses.specs.declared.set4.Set4.{Set4}
use Rattle.addresses.specs.Addresses.{Family, four, six, nothing, octets4, list4, set_of, sound}
use Rattle.dname.specs.declared.name.Name.{Name}
use Rattle.dname.specs.Name.{labels_of, limited, shape_of, is_full, name_of, key}
use Rattle.zone.specs.declared.entry.Dhcid.{Dhcid}
use Rattle.zone.specs.declared.entry.Entry.{Entry}
use Rattle.zone.specs.declared.Zone.{Zone}
use Rattle.zone.specs.Meaning.{used, key_of, with_key, in_order, formed}
use Rattle.update.specs.Meaning.{host_of, zone_of}
use Rattle.update.specs.Spelling.{spelling_of}
use Rattle.request.proofs.PlaceLaws.{spells_as}
use Rattle.lentzone.specs.Encode.{set4_octets, set6_octets, Wide, SizedEntry}
use Rattle.serial.specs.Values.{are_octets, ZoneValue}
use Rattle.serial.specs.P12.{pipe, x_dhcid, net10, alone, one_address, x_host, held_by_x, no_names}
use Rattle.serial.proofs.OneName.{no4, no6, one4, free, free_sized, free_octets, octets_append, others, one_name, with_free, value_of, formed_held, zone_held, formed_none, zone_none}

-- ---- the name

-- A name of six octets as a struct.
unfoldable pub name_in : Octets → Name
name_in name = record { octets = name ++ replicate 249 0; len = 6 }

-- pipe in some letters.
pub record Pipe (name : Octets) : Type 0 where
  pub is : name_of (name_in name) ≡ name
  pub key : key name ≡ pipe
  pub full : is_full name ≡ true
  pub size : length (name_in name).octets ≡ 255
  pub octets : are_octets (name_in name).octets ≡ true

pub small : Pipe pipe
unfolding name_in pipe
small = record { is = refl; key = unfold key in refl; full = unfold is_full shape_of limited labels_of in refl; size = refl; octets = unfold are_octets in refl }

abbrev pub of_x : Dhcid
of_x = record { octets = x_dhcid }

-- ---- the name held by X

-- with these addresses of family 4
unfoldable pub held_with : Octets → Set4 → Entry
held_with name s = record { kind = 2; name = name_in name; dhcid = of_x; v4 = s; v6 = no6 }

module _ (name : Octets) (p : Pipe name) (s : Set4) where
  abbrev e : Entry
  e = held_with name s

  held_used : used e ≡ true
  unfolding held_with used
  held_used = refl

  held_key : key_of e ≡ pipe
  unfolding held_with
  held_key = ap key p.is ∙ p.key

  held_sized : Wide 4 4 (map octets4 s.items) → SizedEntry e
  unfolding held_with
  held_sized w = record { name = p.size; dhcid = unfold x_dhcid in refl; v4 = w; v6 = (refl, (refl, (refl, (refl, tt)))) }

  held_order : sound s.count (list4 s) ≡ true → in_order e ≡ true
  unfolding held_with in_order
  held_order o = rw (p.is, p.full, o) (unfold sound distinct in refl)

  held_host : host_of e ≡ x_host (set_of (list4 s))
  unfolding held_with host_of x_host member
  held_host = λ i. record { owner = some x_dhcid; addresses = fun_ext each i }
    where
      each : (f : Family) → (host_of (held_with name s)).addresses f ≡ (x_host (set_of (list4 s))).addresses f
      each four = refl
      each six = refl

  held_zone : zone_of (one_name e) ≡ held_by_x (set_of (list4 s))
  held_zone = zone_held e held_used held_key (set_of (list4 s)) held_host

  held_value : Wide 4 4 (map octets4 s.items) → are_octets (6 ∷ (x_dhcid ++ (set4_octets s ++ set6_octets no6))) ≡ true → ZoneValue (one_name e)
  held_value w o =
      value_of e (held_sized w)
      (unfold held_with name_in in octets_append (2 ∷ (name_in name).octets) (6 ∷ (x_dhcid ++ (set4_octets s ++ set6_octets no6))) (unfold are_octets in rw p.octets refl) o)

  held_formed : sound s.count (list4 s) ≡ true → formed (one_name e) ≡ true
  held_formed o = formed_held e held_used held_key (held_order o)

  -- how it is spelled
  pub one_spelled : (k : Octets) → spelling_of (one_name e) k ≡ cond (same_octets pipe k) (some name) none
  unfolding spelling_of
  one_spelled k = unfold with_key others in rw (held_used, held_key, with_free spells_as 63 k) (unfold held_with in rw p.is refl)

-- ---- the zones

-- The name with 10.0.0.n alone.
abbrev pub full_of : Octets → ℕ → Zone
full_of name n = one_name (held_with name (one4 (net10 n)))

module _ (name : Octets) (p : Pipe name) (n : ℕ) where
  pub full_of_value : ltb n 256 ≡ true → ZoneValue (full_of name n)
  full_of_value h = held_value name p (one4 (net10 n)) (refl, (refl, (refl, (refl, tt)))) (unfold x_dhcid are_octets in rw h refl)

  pub full_of_formed : formed (full_of name n) ≡ true
  full_of_formed = held_formed name p (one4 (net10 n)) (unfold sound distinct member in refl)

  pub full_of_zone : zone_of (full_of name n) ≡ held_by_x (alone (net10 n))
  unfolding alone
  full_of_zone = held_zone name p (one4 (net10 n))

-- Those of P12: with its address, without one, and no name.
abbrev pub full : Zone
full = full_of pipe 1

abbrev pub bare : Zone
bare = one_name (held_with pipe no4)

abbrev pub clear : Zone
clear = one_name free

pub full_value : ZoneValue full
full_value = full_of_value pipe small 1 refl

pub bare_value : ZoneValue bare
bare_value = held_value pipe small no4 (refl, (refl, (refl, (refl, tt)))) (unfold x_dhcid are_octets in refl)

pub clear_value : ZoneValue clear
clear_value = value_of free free_sized free_octets

pub full_formed : formed full ≡ true
full_formed = full_of_formed pipe small 1

pub bare_formed : formed bare ≡ true
bare_formed = held_formed pipe small no4 (unfold sound distinct in refl)

pub clear_formed : formed clear ≡ true
clear_formed = formed_none free (unfold free used in refl)

pub full_zone : zone_of full ≡ held_by_x one_address
full_zone = full_of_zone pipe small 1

pub bare_zone : zone_of bare ≡ held_by_x nothing
unfolding member
bare_zone = held_zone pipe small no4

pub clear_zone : zone_of clear ≡ no_names
clear_zone = zone_none free (unfold free used in refl)

-- The name is spelled alike whatever its addresses are, and where there is none nothing is spelled.
pub held_spelled : (s t : Set4) → spelling_of (one_name (held_with pipe s)) ≡ spelling_of (one_name (held_with pipe t))
unfolding spelling_of with_key held_with used
held_spelled s t = refl

pub clear_spelled : (k : Octets) → spelling_of clear k ≡ none
unfolding spelling_of others
clear_spelled k = with_free spells_as 64 k
