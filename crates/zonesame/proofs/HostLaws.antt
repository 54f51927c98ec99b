-- The tests of what stands at two places tell whether its meaning is the same. Assumes nothing.
use mathlib.Core.Path.{◌≡◌, refl, sym, ap, fun_ext}
use mathlib.Core.Bool.{Bool, true, false, cond, true≢false}
use mathlib.Core.List.{List}
use mathlib.Core.Option.{Option, none, some}
use lib.Dec.{eqb}
use borrow.Author.Tests.{eq-eqb, ne_eqb}
use Rattle.octets.proofs.BoolLaws.{and_both, and_left, and_right}
use Rattle.octets.proofs.CompareLaws.{same_true}
use Rattle.octets.proofs.CountLaws.{same_yes}
use Rattle.octets.specs.Compare.{same_octets}
use Rattle.octets.specs.Count.{Octets, distinct}
use Rattle.addresses.specs.Addresses.{Family, four, six, Addresses, list4, list6, set_of, within}
use Rattle.addresses.proofs.SetLaws.{sound_once, within_both, set_within}
use Rattle.zone.specs.declared.entry.Entry.{Entry}
use Rattle.zone.specs.declared.entry.Records.{Records}
use Rattle.zone.specs.Meaning.{in_order}
use Rattle.zone.specs.Survey.{records_of}
use Rattle.update.specs.Rules.{Host}
use Rattle.update.specs.Meaning.{list_of, host_of}
use Rattle.update.proofs.ZoneLaws.{some≢none}
use Rattle.request.proofs.HostLaws.{order_parts}
use Rattle.zonesame.specs.Inner.{same_owner, same_lists, same_host}

-- ---- owners: none for a static name

module _ (a b : Records) where
  pub owner_static : a.kind ≡ 1 → eqb b.kind 1 ≡ same_owner a b
  unfolding same_owner
  owner_static h = sym (rw (eq-eqb a.kind 1 h))

  pub owner_other : ¬ (a.kind ≡ 1) → b.kind ≡ 1 → false ≡ same_owner a b
  unfolding same_owner
  owner_other h k = sym (rw (ne_eqb a.kind 1 h, eq-eqb b.kind 1 k))

  pub owner_held : ¬ (a.kind ≡ 1) → ¬ (b.kind ≡ 1) → same_octets a.dhcid.octets b.dhcid.octets ≡ same_owner a b
  unfolding same_owner
  owner_held h k = sym (rw (ne_eqb a.kind 1 h, ne_eqb b.kind 1 k))

owner_told : (u v : Bool) (a b : Octets) → cond u v (cond v false (same_octets a b)) ≡ true → ◌≡◌ {A = Option Octets} (cond u none (some a)) (cond v none (some b))
owner_told true true a b h = refl
owner_told true false a b h = absurd (true≢false (sym h))
owner_told false true a b h = absurd (true≢false (sym h))
owner_told false false a b h = ap some (same_true a b h)

owner_tells : (u v : Bool) (a b : Octets) → ◌≡◌ {A = Option Octets} (cond u none (some a)) (cond v none (some b)) → cond u v (cond v false (same_octets a b)) ≡ true
owner_tells true true a b h = refl
owner_tells true false a b h = absurd (some≢none (sym h))
owner_tells false true a b h = absurd (some≢none h)
owner_tells false false a b h = same_yes a b cc

-- ---- address sets

lists_told : (l m : List Octets) → distinct l ≡ true → distinct m ≡ true → same_lists l m ≡ true → set_of l ≡ set_of m
unfolding same_lists
lists_told l m d e h = within_both l m d e (and_left (within l m) (within m l) h) (and_right (within l m) (within m l) h)

lists_tell : (l m : List Octets) → set_of l ≡ set_of m → same_lists l m ≡ true
unfolding same_lists
lists_tell l m e = and_both (within l m) (within m l) (set_within l m e) (set_within m l (sym e))

-- ---- all of it

module _ (a b : Records) where
  pub host_owner : same_owner a b ≡ false → false ≡ same_host a b
  unfolding same_host
  host_owner h = sym (rw h)

  pub host_sets4 : same_owner a b ≡ true → same_lists (list4 a.v4) (list4 b.v4) ≡ false → false ≡ same_host a b
  unfolding same_host
  host_sets4 h k = sym (rw (h, k))

  pub host_sets6 : same_owner a b ≡ true → same_lists (list4 a.v4) (list4 b.v4) ≡ true → same_lists (list6 a.v6) (list6 b.v6) ≡ same_host a b
  unfolding same_host
  host_sets6 h k = sym (rw (h, k))

module _ (e f : Entry) where
  abbrev owners : Bool
  owners = same_owner (records_of e) (records_of f)

  abbrev sets4 : Bool
  sets4 = same_lists (list4 e.v4) (list4 f.v4)

  abbrev sets6 : Bool
  sets6 = same_lists (list6 e.v6) (list6 f.v6)

  pub host_told : in_order e ≡ true → in_order f ≡ true → same_host (records_of e) (records_of f) ≡ true → host_of e ≡ host_of f
  unfolding same_host same_owner host_of
  host_told p q h =
      let o = owner_told (eqb e.kind 1) (eqb f.kind 1) e.dhcid.octets f.dhcid.octets (and_left owners _ h) in
      let a : ◌≡◌ {A = Family → Addresses} (λ x. set_of (list_of e x)) (λ x. set_of (list_of f x)) = fun_ext on in
      λ i. record { owner = o i; addresses = a i }
    where
      on : (x : Family) → set_of (list_of e x) ≡ set_of (list_of f x)
      on four = lists_told _ _ (sound_once _ _ (order_parts e p).sound4) (sound_once _ _ (order_parts f q).sound4) (and_left sets4 sets6 (and_right owners _ h))
      on six = lists_told _ _ (sound_once _ _ (order_parts e p).sound6) (sound_once _ _ (order_parts f q).sound6) (and_right sets4 sets6 (and_right owners _ h))

  pub host_tells : host_of e ≡ host_of f → same_host (records_of e) (records_of f) ≡ true
  unfolding same_host same_owner host_of
  host_tells h =
      and_both owners _ (owner_tells (eqb e.kind 1) (eqb f.kind 1) e.dhcid.octets f.dhcid.octets (ap (λ (x : Host). x.owner) h))
      (and_both sets4 sets6 (lists_tell _ _ (ap (λ (x : Host). x.addresses four) h)) (lists_tell _ _ (ap (λ (x : Host). x.addresses six) h)))
