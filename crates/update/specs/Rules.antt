-- The zone and its requests. Document 01, "Zone, requests and jobs".
use Rattle.std.specs.Prelude.{◌≡◌, Bool, true, false, cond, ◌&&◌, ◌||◌, ℕ, ◌+◌, ◌-◌, ◌≤◌, eqb, ltb}
use Rattle.std.proofs.Math.Option.{Option, none, some}
use Rattle.octets.specs.Compare.{same_octets}
use Rattle.dname.specs.Name.{key}
use Rattle.octets.specs.Count.{Octets, Counts}
use Rattle.addresses.specs.Addresses.{Family, four, six, Addresses, nothing, including, excluding}

-- What stands at a name: its owner, a DHCID or none for a static name, and its addresses of each family.
pub record Host : Type 0 where
  pub owner : Option Octets
  pub addresses : Family → Addresses

-- A zone: how many names it has, and what stands at the name with a key. Places, and how a name is spelled, are no part of it, so two
-- such zones are equal exactly when names, owners and address sets are.
pub record Zone : Type 0 where
  pub size : ℕ
  pub at : Octets → Option Host

abbrev pub there : {A : Type 0} → Option A → Bool
there none = false
there (some a) = true

-- What stands at a name.
abbrev pub at_key : Octets → Zone → Option Host
at_key n z = z.at (key n)

-- ---- the form, as far as it shows here: at most 64 names, at most four addresses a family, and the counts count

pub record GoodHost (h : Host) : Type 0 where
  pub at_most_four : (f : Family) → (h.addresses f).count ≤ 4
  pub counted : (f : Family) → Counts (h.addresses f).count (h.addresses f).has

pub record Form (z : Zone) : Type 0 where
  pub few : z.size ≤ 64
  pub names : Counts z.size (λ k. there (z.at k))
  pub hosts : (k : Octets) (h : Host) → z.at k ≡ some h → GoodHost h

-- ---- writing

abbrev pub is_family : Family → Family → Bool
is_family four four = true
is_family four six = false
is_family six four = false
is_family six six = true

-- The host with other addresses of one family.
unfoldable pub with : Family → Addresses → Host → Host
with f s h = record { owner = h.owner; addresses = λ g. cond (is_family f g) s (h.addresses g) }

-- The zone with a host at a name.
unfoldable pub with_name : Octets → Host → Zone → Zone
with_name n h z = record { size = cond (there (at_key n z)) z.size (z.size + 1); at = λ k. cond (same_octets (key n) k) (some h) (z.at k) }

-- The zone without a name.
unfoldable pub without_name : Octets → Zone → Zone
without_name n z = record { size = cond (there (at_key n z)) (z.size - 1) z.size; at = λ k. cond (same_octets (key n) k) none (z.at k) }

-- ---- the requests

-- What a request is about: RFC 2136 calls it an update.
pub record Update : Type 0 where
  pub name : Octets
  pub dhcid : Octets
  pub family : Family
  pub address : Octets

-- What an add does about the other addresses: it keeps them, leaves no other of its family, or no other at all.
pub data Policy : Type 0 where
  keep_others one_of_family only_this : Policy

pub data Answer : Type 0 where
  success NXDOMAIN YXDOMAIN YXRRSET NXRRSET no_room : Answer

-- A request is tested and done at once: an answer, and the zone after it.
pub record Outcome : Type 0 where
  pub answer : Answer
  pub zone : Zone

abbrev pub says : Answer → Zone → Outcome
says a z = record { answer = a; zone = z }

-- What stands at the update's name; its addresses of the update's family; whether a DHCID holds the name; whether it has no address.
abbrev pub at_name : Update → Zone → Option Host
at_name u z = at_key u.name z

abbrev pub own_family : Update → Host → Addresses
own_family u h = h.addresses u.family

unfoldable pub held_by : Octets → Option Octets → Bool
held_by d none = false
held_by d (some x) = same_octets x d

unfoldable pub empty : Host → Bool
empty h = eqb (h.addresses four).count 0 && eqb (h.addresses six).count 0

-- The host with the update's address, and without it.
unfoldable pub with_address : Update → Host → Host
with_address u h = with u.family (including u.address (own_family u h)) h

unfoldable pub without_address : Update → Host → Host
without_address u h = with u.family (excluding u.address (own_family u h)) h

-- Request A: an absent name is added, with the DHCID and the address; a name that is there answers YXDOMAIN. Where it would be the 65th
-- name there is no room.
unfoldable pub new_host : Update → Host
new_host u = with_address u (record { owner = some u.dhcid; addresses = λ f. nothing })

unfoldable pub request_a : Update → Zone → Outcome
request_a u z =
    elim (at_name u z) [
      | none ↦ cond (ltb z.size 64) (says success (with_name u.name (new_host u) z)) (says no_room z)
      | some h ↦ says YXDOMAIN z
    ]

-- What the deletes by policy leave of a host.
unfoldable pub left : Family → Policy → Host → Host
left f keep_others h = h
left f one_of_family h = with f nothing h
left f only_this h = record { owner = h.owner; addresses = λ g. nothing }

-- There is room for the update's address: it is there, or the family has fewer than four.
unfoldable pub fits : Update → Host → Bool
fits u h = (own_family u h).has u.address || ltb (own_family u h).count 4

-- Request B: an absent name answers NXDOMAIN, a static one or one of another owner NXRRSET. Else the deletes by policy, then the address
-- is added unless it is there; where it would be the fifth of its family there is no room, and nothing changes.
unfoldable pub write_b : Update → Zone → Host → Outcome
write_b u z h = cond (fits u h) (says success (with_name u.name (with_address u h) z)) (says no_room z)

unfoldable pub request_b : Policy → Update → Zone → Outcome
request_b p u z =
    elim (at_name u z) [
      | none ↦ says NXDOMAIN z
      | some h ↦ cond (held_by u.dhcid h.owner) (write_b u z (left u.family p h)) (says NXRRSET z)
    ]

-- The first remove request: a name held by the DHCID loses the address, if it has it, and stays; any other, or none, answers NXRRSET.
unfoldable pub remove_address : Update → Zone → Outcome
remove_address u z =
    elim (at_name u z) [
      | none ↦ says NXRRSET z
      | some h ↦ cond (held_by u.dhcid h.owner) (says success (with_name u.name (without_address u h) z)) (says NXRRSET z)
    ]

-- The second remove request: a name held by the DHCID is deleted where it has no address, and answers YXRRSET where it has one; any other,
-- or none, answers NXRRSET.
unfoldable pub delete_name : Update → Zone → Host → Outcome
delete_name u z h = cond (empty h) (says success (without_name u.name z)) (says YXRRSET z)

unfoldable pub remove_name : Update → Zone → Outcome
remove_name u z =
    elim (at_name u z) [
      | none ↦ says NXRRSET z
      | some h ↦ cond (held_by u.dhcid h.owner) (delete_name u z h) (says NXRRSET z)
    ]
