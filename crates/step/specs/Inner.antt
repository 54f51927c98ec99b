-- What inner functions promise. No promise of an exported call cites these.
use Rattle.std.specs.Prelude.{List, ℕ, suc}
use Rattle.dname.specs.Name.{name_of}
use Rattle.zone.specs.declared.Zone.{Zone}
use Rattle.update.specs.Rules as rules
use Rattle.update.specs.Rules.{Answer, success, Outcome, request_a, request_b, remove_address, remove_name}
use Rattle.update.specs.Meaning.{policy_of, update_of, zone_of}
use Rattle.request.specs.declared.Answered.{Answered}
use Rattle.request.specs.declared.lent.RequestAnswer.{RequestAnswer}
use Rattle.request.specs.Promise.{refusal_of, Promised}
use Rattle.request.specs.Lent.{refusal_in, PromisedIn}
use Rattle.job.specs.declared.job.Job.{Job}
use Rattle.job.specs.declared.stage.Stage as code
use Rattle.job.specs.declared.stage.Stage.TheVariants.{BeforeA, BeforeB, Done, Conflict, NoRoom, GaveUp, BeforeFirst, BeforeSecond, NotOurs, Gone, Kept}
use Rattle.job.specs.Jobs.{Stage, after, after_first, after_second}
use Rattle.job.specs.Inner.{staged}

-- The policy that the request of a stage reads, 0 where it reads none.
abbrev pub policy_read : code.Stage → Job → ℕ
policy_read BeforeB j = j.policy
policy_read BeforeA j = 0
policy_read BeforeFirst j = 0
policy_read BeforeSecond j = 0
policy_read Done j = 0
policy_read Conflict j = 0
policy_read NoRoom j = 0
policy_read GaveUp j = 0
policy_read NotOurs j = 0
policy_read Gone j = 0
policy_read Kept j = 0

-- Nothing done to a zone, and answered with success.
abbrev pub untouched : rules.Zone → Outcome
untouched z = record { zone = z; answer = success }

-- What the rules make of the zone by the request of a stage; a job that has ended sends none.
abbrev pub request_at : code.Stage → Job → rules.Zone → Outcome
request_at BeforeA j = request_a (update_of j.name j.dhcid j.family j.address)
request_at BeforeB j = request_b (policy_of j.policy) (update_of j.name j.dhcid j.family j.address)
request_at BeforeFirst j = remove_address (update_of j.name j.dhcid j.family j.address)
request_at BeforeSecond j = remove_name (update_of j.name j.dhcid j.family j.address)
request_at Done j = untouched
request_at Conflict j = untouched
request_at NoRoom j = untouched
request_at GaveUp j = untouched
request_at NotOurs j = untouched
request_at Gone j = untouched
request_at Kept j = untouched

-- Where an answer leads a job that stands at the stage and the count.
abbrev pub rule_of : code.Stage → ℕ → Answer → Stage
rule_of BeforeA n = after (suc n)
rule_of BeforeB n = after (suc n)
rule_of BeforeFirst n = after_first
rule_of BeforeSecond n = after_second
rule_of Done n = λ a. staged Done n
rule_of Conflict n = λ a. staged Conflict n
rule_of NoRoom n = λ a. staged NoRoom n
rule_of GaveUp n = λ a. staged GaveUp n
rule_of NotOurs n = λ a. staged NotOurs n
rule_of Gone n = λ a. staged Gone n
rule_of Kept n = λ a. staged Kept n

-- What the request of a stage came to, by value.
abbrev pub SentPromise : Zone → Job → code.Stage → Answered → Type 0
SentPromise z j s r = Promised z (name_of j.name) (refusal_of z (name_of j.name) j.family (policy_read s j)) (request_at s j (zone_of z)) r

-- The same where the zone is lent.
abbrev pub SentPromiseIn : List ℕ → Job → code.Stage → List ℕ → RequestAnswer → Type 0
SentPromiseIn z j s after r = PromisedIn z (name_of j.name) (refusal_in z (name_of j.name) j.family (policy_read s j)) (request_at s j) after r
