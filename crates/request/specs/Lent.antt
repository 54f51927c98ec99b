-- What each exported call on a lent zone promises.
use Rattle.std.specs.Prelude.{◌≡◌, cond, List, ℕ, eqb, length}
use Rattle.octets.specs.Count.{Octets}
use Rattle.dname.specs.Name.{name_of}
use Rattle.dname.specs.declared.name.Name.{Name}
use Rattle.zone.specs.declared.entry.Address.{Address}
use Rattle.zone.specs.declared.entry.Dhcid.{Dhcid}
use Rattle.update.specs.Rules as rules
use Rattle.update.specs.Rules.{Update, Outcome}
use Rattle.update.specs.Meaning.{zone_of, update_of}
use Rattle.lentzone.specs.Decode.{zone_in, OnePlace}
use Rattle.request.specs.declared.Answered.{Answered}
use Rattle.request.specs.declared.lent.RequestAnswer.{RequestAnswer}
use Rattle.request.specs.Promise.{refusal_of, Promised}

-- The refusal on the zone that the octets hold; other than 23,936 octets hold no zone, which is refusal 17.
unfoldable pub refusal_in : List ℕ → Octets → ℕ → ℕ → ℕ
refusal_in z name family policy = cond (eqb (length z) 23936) (refusal_of (zone_in z) name family policy) 17

-- What the call by value would hand back.
abbrev pub answered : List ℕ → RequestAnswer → Answered
answered after r = record { refusal = r.refusal; answer = r.answer; zone = zone_in after }

-- A request about a name on the octets z, of which it makes the octets after, with its refusal and its rule. There are as many octets as before. They
-- are the very same ones where the request is refused, and where the rule leaves the zone that they hold as it is; else no octet outside
-- one place is another. The refusal, the answer and the zone that they hold are what the same request by value promises.
pub record PromisedIn (z : List ℕ) (name : Octets) (refusal : ℕ) (request : rules.Zone → Outcome) (after : List ℕ) (r : RequestAnswer) : Type 0 where
  pub size : length after ≡ length z
  pub same : ¬ (refusal ≡ 0) → after ≡ z
  pub unchanged : (request (zone_of (zone_in z))).zone ≡ zone_of (zone_in z) → after ≡ z
  pub elsewhere : OnePlace z after
  pub promised : Promised (zone_in z) name refusal (request (zone_of (zone_in z))) (answered after r)

-- A request by its rule and its policy, as RequestPromise has it.
abbrev pub RequestPromiseIn : (Update → rules.Zone → Outcome) → List ℕ → Name → Dhcid → ℕ → Address → ℕ → List ℕ → RequestAnswer → Type 0
RequestPromiseIn rule z n d family a policy after r = PromisedIn z (name_of n) (refusal_in z (name_of n) family policy) (rule (update_of n d family a)) after r
