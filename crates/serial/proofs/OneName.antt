-- Zones written out: a struct with one place that may be used and 63 free ones, what it means, and that a program can hold it. Assumes nothing.
use mathlib.Core.Path.{◌≡◌, refl, ap, fun_ext}
use mathlib.Core.Bool.{true, false, cond}
use mathlib.Core.List.{List, [], ◌∷◌, ◌++◌}
use mathlib.Core.Option.{none, some}
use Prim.Native.Nat.{ℕ, zero, suc}
use lib.Dec.{ltb}
use lib.ListN.{length, replicate}
use Rattle.octets.proofs.BoolLaws.{and_left, and_right}
use Rattle.octets.specs.Compare.{same_octets}
use Rattle.octets.specs.Count.{Octets, member, distinct}
use Rattle.addresses.specs.declared.set4.Addr4.{Addr4}
use Rattle.addresses.specs.declared.set4.Set4.{Set4}
use Rattle.addresses.specs.declared.set6.Addr6.{Addr6}
use Rattle.addresses.specs.declared.set6.Set6.{Set6}
use Rattle.addresses.specs.Addresses.{Addresses}
use Rattle.zone.specs.declared.entry.Entry.{Entry}
use Rattle.zone.specs.declared.Zone.{Zone}
use Rattle.zone.specs.Meaning.{used, key_of, keys, with_key, in_order, all_in_order, formed}
use Rattle.update.specs.Meaning.{host_of, zone_of}
use Rattle.lentzone.specs.Encode.{SizedEntry, SizedEntries, entry_octets, entries_octets}
use Rattle.request.proofs.PlaceLaws.{formed_all}
use Rattle.serial.specs.Values.{are_octets, ZoneValue}
use Rattle.serial.specs.P12.{pipe, x_host, held_by_x, no_names}

-- ---- the places

abbrev zero4 : Addr4
zero4 = record { octets = replicate 4 0 }

abbrev zero6 : Addr6
zero6 = record { octets = replicate 16 0 }

abbrev pub no4 : Set4
no4 = record { items = zero4 ∷ zero4 ∷ zero4 ∷ zero4 ∷ []; count = 0 }

abbrev pub no6 : Set6
no6 = record { items = zero6 ∷ zero6 ∷ zero6 ∷ zero6 ∷ []; count = 0 }

-- the set of one address
abbrev pub one4 : Octets → Set4
one4 a = record { items = record { octets = a } ∷ zero4 ∷ zero4 ∷ zero4 ∷ []; count = 1 }

-- A free place: zeros.
unfoldable pub free : Entry
free = record { kind = 0; name = record { octets = replicate 255 0; len = 0 }; dhcid = record { octets = replicate 35 0 }; v4 = no4; v6 = no6 }

unfoldable pub others : List Entry
others = replicate 63 free

-- The zone with this place in front of 63 free ones.
abbrev pub one_name : Entry → Zone
one_name e = record { entries = e ∷ others }

-- ---- the free places

pub with_free : {A : Type 0} (tells : Entry → A) (n : ℕ) (k : Octets) → with_key tells (replicate n free) k ≡ none
unfolding with_key used free
with_free tells zero k = refl
with_free tells (suc n) k = with_free tells n k

keys_free : (n : ℕ) → keys (replicate n free) ≡ []
unfolding keys used free
keys_free zero = refl
keys_free (suc n) = keys_free n

order_free : (n : ℕ) → all_in_order (replicate n free) ≡ true
unfolding all_in_order used free
order_free zero = refl
order_free (suc n) = order_free n

length_free : (n : ℕ) → length (replicate n free) ≡ n
length_free zero = refl
length_free (suc n) = ap suc (length_free n)

pub free_sized : SizedEntry free
unfolding free
free_sized = record { name = refl; dhcid = refl; v4 = (refl, (refl, (refl, (refl, tt)))); v6 = (refl, (refl, (refl, (refl, tt)))) }

sized_free : (n : ℕ) → SizedEntries n (replicate n free)
sized_free zero = tt
sized_free (suc n) = (free_sized, sized_free n)

-- ---- octets

pub octets_append : (a b : List ℕ) → are_octets a ≡ true → are_octets b ≡ true → are_octets (a ++ b) ≡ true
unfolding are_octets
octets_append [] b p q = q
octets_append (x ∷ a) b p q =
    rw (and_left (ltb x 256) (are_octets a) p, octets_append a b (and_right (ltb x 256) (are_octets a) p) q) refl

pub free_octets : are_octets (entry_octets free) ≡ true
unfolding are_octets free
free_octets = refl

octets_free : (n : ℕ) → are_octets (entries_octets (replicate n free)) ≡ true
unfolding entries_octets
octets_free zero = unfold are_octets in refl
octets_free (suc n) = octets_append (entry_octets free) (entries_octets (replicate n free)) free_octets (octets_free n)

-- ---- the zone

module _ (e : Entry) where
  pub value_of : SizedEntry e → are_octets (entry_octets e) ≡ true → ZoneValue (one_name e)
  unfolding others entries_octets
  value_of s o = record { sizes = (s, sized_free 63); octets = octets_append (entry_octets e) (entries_octets (replicate 63 free)) o (octets_free 63) }

  length_of_lem : length (one_name e).entries ≡ 64
  unfolding others
  length_of_lem = ap suc (length_free 63)

  module _ (u : used e ≡ true) (n : key_of e ≡ pipe) where
    keys_held : keys (one_name e).entries ≡ pipe ∷ []
    unfolding keys others
    keys_held = rw (u, n, keys_free 63) refl

    pub formed_held : in_order e ≡ true → formed (one_name e) ≡ true
    formed_held o = formed_all (one_name e) length_of_lem (unfold all_in_order others in rw (u, o, order_free 63) refl) (rw keys_held (unfold distinct member in refl))

    pub zone_held : (s : Addresses) → host_of e ≡ x_host s → zone_of (one_name e) ≡ held_by_x s
    unfolding zone_of held_by_x
    zone_held s h = λ i. record { size = size i; at = at i }
      where
        size : length (keys (one_name e).entries) ≡ 1
        size = ap length keys_held

        at : with_key host_of (one_name e).entries ≡ (λ k. cond (same_octets pipe k) (some (x_host s)) none)
        at = fun_ext (λ k. unfold with_key others in rw (u, n, h, with_free host_of 63 k) refl)

  module _ (u : used e ≡ false) where
    keys_none : keys (one_name e).entries ≡ []
    unfolding keys others
    keys_none = rw (u, keys_free 63) refl

    pub formed_none : formed (one_name e) ≡ true
    formed_none = formed_all (one_name e) length_of_lem (unfold all_in_order others in rw (u, order_free 63) refl) (rw keys_none (unfold distinct in refl))

    pub zone_none : zone_of (one_name e) ≡ no_names
    unfolding zone_of
    zone_none = λ i. record { size = ap length keys_none i; at = at i }
      where
        at : with_key host_of (one_name e).entries ≡ (λ k. none)
        at = fun_ext (λ k. unfold with_key others in rw (u, with_free host_of 63 k) refl)
