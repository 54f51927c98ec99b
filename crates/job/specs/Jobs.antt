-- Jobs and their steps. Document 01, "Zone, requests and jobs".
use Rattle.std.specs.Prelude.{Bool, true, false, cond, ◌||◌, List, [], ◌∷◌, ℕ, suc, eqb}
use Rattle.std.proofs.Math.Option.{Option, none, some}
use Rattle.update.specs.Rules.{Zone, Update, Policy, Answer, success, NXDOMAIN, YXDOMAIN, YXRRSET, NXRRSET, Outcome, request_a, request_b, remove_address, remove_name}

pub data Kind : Type 0 where
  add remove : Kind

-- What a job was given. No request of a remove reads the policy.
pub record Arguments : Type 0 where
  pub kind : Kind
  pub update : Update
  pub policy : Policy

-- How a job ended; an add with the number of requests that it sent.
pub data End : Type 0 where
  done conflict no_room gave_up : ℕ → End
  not_ours gone kept : End

-- Where a job stands: an add before request A or B, with the number of requests it has sent; a remove before its first request or its
-- second; or ended.
pub data Stage : Type 0 where
  before_a before_b : ℕ → Stage
  before_first before_second : Stage
  ended : End → Stage

pub record Job : Type 0 where
  pub arguments : Arguments
  pub stage : Stage

unfoldable pub among : ℕ → List ℕ → Bool
among n [] = false
among n (x ∷ l) = eqb n x || among n l

-- The counts that a stage can have. A and B take turns, and six requests are the most: even before A, odd before B. A conflict comes from
-- B, and giving up from the sixth request. A remove has no count.
unfoldable pub possible : Stage → Bool
possible (before_a n) = among n (0 ∷ 2 ∷ 4 ∷ [])
possible (before_b n) = among n (1 ∷ 3 ∷ 5 ∷ [])
possible (ended (done n)) = among n (1 ∷ 2 ∷ 3 ∷ 4 ∷ 5 ∷ 6 ∷ [])
possible (ended (conflict n)) = among n (2 ∷ 4 ∷ 6 ∷ [])
possible (ended (no_room n)) = among n (1 ∷ 2 ∷ 3 ∷ 4 ∷ 5 ∷ 6 ∷ [])
possible (ended (gave_up n)) = among n (6 ∷ [])
possible before_first = true
possible before_second = true
possible (ended not_ours) = true
possible (ended gone) = true
possible (ended kept) = true

-- An add starts with A, a remove with its first request.
abbrev pub first_stage : Kind → Stage
first_stage add = before_a 0
first_stage remove = before_first

unfoldable pub fresh : Arguments → Stage
fresh j = first_stage j.kind

-- Where an answer leads an add; n is the number of requests sent, the one answered among them. Success is done, YXDOMAIN leads to B,
-- NXDOMAIN back to A, or at the sixth request to giving up; NXRRSET is a conflict. No request of an add answers YXRRSET; it would be one too.
unfoldable pub after : ℕ → Answer → Stage
after n success = ended (done n)
after n YXDOMAIN = before_b n
after n NXDOMAIN = cond (eqb n 6) (ended (gave_up n)) (before_a n)
after n YXRRSET = ended (conflict n)
after n NXRRSET = ended (conflict n)
after n Answer.no_room = ended (no_room n)

abbrev pub passed : Answer → Bool
passed success = true
passed YXDOMAIN = false
passed NXDOMAIN = false
passed YXRRSET = false
passed NXRRSET = false
passed Answer.no_room = false

-- Where an answer leads a remove: from its first request to the second, or it ends, the name not being its own; from its second to its end,
-- with the name gone or kept.
unfoldable pub after_first : Answer → Stage
after_first a = cond (passed a) before_second (ended not_ours)

unfoldable pub after_second : Answer → Stage
after_second a = cond (passed a) (ended gone) (ended kept)

pub record State : Type 0 where
  pub zone : Zone
  pub stage : Stage

abbrev pub goes_on : Outcome → (Answer → Stage) → State
goes_on o f = record { zone = o.zone; stage = f o.answer }

-- One step is one request. A job that has ended changes nothing.
unfoldable pub step : Arguments → Zone → Stage → State
step j z (before_a n) = goes_on (request_a j.update z) (after (suc n))
step j z (before_b n) = goes_on (request_b j.policy j.update z) (after (suc n))
step j z before_first = goes_on (remove_address j.update z) after_first
step j z before_second = goes_on (remove_name j.update z) after_second
step j z (ended e) = record { zone = z; stage = ended e }

-- A whole job sends its requests until it has ended: from a zone and a stage to a zone and its end.
pub data Sends (j : Arguments) : Zone → Stage → Zone → End → Type 0 where
  has_ended : {z : Zone} {e : End} → Sends j z (ended e) z e
  sends : {z y : Zone} {s : Stage} {e : End} → Sends j (step j z s).zone (step j z s).stage y e → Sends j z s y e

-- The count that an add reports.
abbrev pub sent : End → Option ℕ
sent (done n) = some n
sent (conflict n) = some n
sent (no_room n) = some n
sent (gave_up n) = some n
sent not_ours = none
sent gone = none
sent kept = none
