-- What the structs mean, and the numbers of a request. Document 01, "Zone, requests and jobs".
use Rattle.std.specs.Prelude.{Bool, true, cond, ◌&&◌, List, ℕ, eqb, leb, length, take}
use Rattle.std.proofs.Math.Option.{none, some}
use Rattle.octets.specs.Count.{Octets}
use Rattle.addresses.specs.Addresses.{Family, four, six, list4, list6, set_of}
use Rattle.dname.specs.declared.name.Name.{Name}
use Rattle.zone.specs.declared.entry.Address.{Address}
use Rattle.zone.specs.declared.entry.Dhcid.{Dhcid}
use Rattle.zone.specs.declared.entry.Entry.{Entry}
use Rattle.zone.specs.declared.Zone.{Zone}
use Rattle.dname.specs.Name.{name_of}
use Rattle.zone.specs.Meaning.{keys, with_key}
use Rattle.update.specs.Rules as rules
use Rattle.update.specs.Rules.{Host, Update, Policy, keep_others, one_of_family, only_this}

-- What stands at a place that is used. A static name, of kind 1, has no owner: its DHCID does not matter.
abbrev pub list_of : Entry → Family → List Octets
list_of e four = list4 e.v4
list_of e six = list6 e.v6

unfoldable pub host_of : Entry → Host
host_of e = record { owner = cond (eqb e.kind 1) none (some e.dhcid.octets); addresses = λ f. set_of (list_of e f) }

-- A zone: how many names stand at its places, and what stands at one.
unfoldable pub zone_of : Zone → rules.Zone
zone_of z = record { size = length (keys z.entries); at = with_key host_of z.entries }

-- ---- the numbers and structs of a request

-- Families are 4 and 6, policies 0, 1 and 2: other numbers are not listed.
unfoldable pub listed : ℕ → ℕ → Bool
listed family policy = cond (eqb family 4) true (eqb family 6) && leb policy 2

unfoldable pub family_of : ℕ → Family
family_of number = cond (eqb number 4) four six

unfoldable pub policy_of : ℕ → Policy
policy_of number = cond (eqb number 0) keep_others (cond (eqb number 1) one_of_family only_this)

-- An address of family 4 is the first 4 octets, one of family 6 all 16.
abbrev pub address_of : Family → Address → Octets
address_of four a = take 4 a.octets
address_of six a = a.octets

unfoldable pub update_of : Name → Dhcid → ℕ → Address → Update
update_of n d family a = record { name = name_of n; dhcid = d.octets; family = family_of family; address = address_of (family_of family) a }
