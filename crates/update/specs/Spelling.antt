-- How the names of a zone are spelled. Document 02, a).
use Rattle.std.specs.Prelude.{cond}
use Rattle.std.proofs.Math.Option.{Option, none, some}
use Rattle.octets.specs.Count.{Octets}
use Rattle.dname.specs.Name.{name_of}
use Rattle.zone.specs.declared.entry.Entry.{Entry}
use Rattle.zone.specs.declared.Zone.{Zone}
use Rattle.zone.specs.Meaning.{with_key}
use Rattle.update.specs.Rules as rules
use Rattle.update.specs.Rules.{there}

-- The octets of the name that has a key, as they stand; none where no name has it.
abbrev pub Spelling : Type 0
Spelling = Octets → Option Octets

-- How the names of a zone by value are spelled. It is no part of what the zone means, so zones that are the same may differ in it.
unfoldable pub spelling_of : Zone → Spelling
spelling_of z = with_key (λ (e : Entry). name_of e.name) z.entries

-- The octets that a name keeps: those it stands with, and where it does not stand yet these.
abbrev pub kept : Octets → Option Octets → Octets
kept octets none = octets
kept octets (some stood) = stood

-- Document 02, a): how names are spelled in the zone that a request about a name leaves. A name keeps the octets that it was first written
-- with for as long as it stands; one that did not stand before has the request's.
unfoldable pub respelled : Octets → rules.Zone → Spelling → Spelling
respelled name left before k = cond (there (left.at k)) (some (kept name (before k))) none
