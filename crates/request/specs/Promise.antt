-- What each exported call on a zone by value promises. Document 01, "Refusal numbers" and "Zone, requests and jobs".
use Rattle.std.specs.Prelude.{◌≡◌, true, cond, ℕ, eqb}
use Rattle.octets.specs.Count.{Octets}
use Rattle.dname.specs.declared.name.Name.{Name}
use Rattle.zone.specs.declared.entry.Address.{Address}
use Rattle.zone.specs.declared.entry.Dhcid.{Dhcid}
use Rattle.zone.specs.declared.Zone.{Zone}
use Rattle.request.specs.declared.Answered.{Answered}
use Rattle.update.specs.Rules as rules
use Rattle.update.specs.Rules.{Update, Answer, success, NXDOMAIN, YXDOMAIN, YXRRSET, NXRRSET, no_room, Outcome}
use Rattle.dname.specs.Name.{name_of, is_full}
use Rattle.zone.specs.Meaning.{formed}
use Rattle.update.specs.Meaning.{zone_of, update_of, listed}
use Rattle.update.specs.Spelling.{spelling_of, respelled}

-- The refusals in their order: the zone's form, a number that is not listed, a name that is not full. 0 is none.
unfoldable pub refusal_of : Zone → Octets → ℕ → ℕ → ℕ
refusal_of z name family policy = cond (formed z) (cond (listed family policy) (cond (is_full name) 0 11) 18) 17

-- The number of an answer: RFC 2136's response code, and 256, above every code of its, for no room.
unfoldable pub number_of : Answer → ℕ
number_of success = 0
number_of NXDOMAIN = 3
number_of YXDOMAIN = 6
number_of YXRRSET = 7
number_of NXRRSET = 8
number_of no_room = 256

-- A request about a name on the zone z, its refusal, and what the rules give where there is none. A refused request hands back the very same
-- zone and 0 for an answer; any other the rules' answer, and a zone of good form that is the rules', at whichever places its names stand.
-- Each of them is spelled as it was, and a name that is new as the request has it. Where the rules leave the zone as it is, the very same
-- zone comes back, every octet of it.
pub record Promised (z : Zone) (name : Octets) (refusal : ℕ) (right : Outcome) (r : Answered) : Type 0 where
  pub refusal_is : r.refusal ≡ refusal
  pub answer_is : r.answer ≡ cond (eqb refusal 0) (number_of right.answer) 0
  pub kept : ¬ (refusal ≡ 0) → r.zone ≡ z
  pub unchanged : right.zone ≡ zone_of z → r.zone ≡ z
  pub done : refusal ≡ 0 → zone_of r.zone ≡ right.zone
  pub formed_again : refusal ≡ 0 → formed r.zone ≡ true
  pub spelled : refusal ≡ 0 → spelling_of r.zone ≡ respelled name right.zone (spelling_of z)

-- A request by its rule, which takes an update, and its policy, 0 where it has none.
abbrev pub RequestPromise : (Update → rules.Zone → Outcome) → Zone → Name → Dhcid → ℕ → Address → ℕ → Answered → Type 0
RequestPromise rule z n d family a policy r =
    Promised z (name_of n) (refusal_of z (name_of n) family policy) (rule (update_of n d family a) (zone_of z)) r
