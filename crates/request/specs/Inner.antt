-- What inner functions decide, on a survey of the zone. No promise of an exported call cites these.
use Rattle.std.specs.Prelude.{◌≡◌, List, Bool, true, false, ◌&&◌, ℕ, ◌+◌, ◌<◌, eqb, get_or, set, Option as Maybe, Some, None, Result, Ok}
use Rattle.std.proofs.Math.Option.{some}
use Rattle.octets.specs.Count.{Octets}
use Rattle.addresses.specs.Addresses.{Family, four, six, nothing}
use Rattle.dname.specs.declared.name.Name.{Name}
use Rattle.zone.specs.declared.entry.Address.{Address}
use Rattle.zone.specs.declared.entry.Dhcid.{Dhcid}
use Rattle.zone.specs.declared.entry.Entry.{Entry}
use Rattle.zone.specs.declared.entry.Records.{Records}
use Rattle.zone.specs.declared.Zone.{Zone}
use Rattle.zone.specs.declared.survey.Survey.{Survey}
use Rattle.zone.specs.declared.survey.Visit.{Visit}
use Rattle.dname.specs.Name.{name_of, is_full}
use Rattle.zone.specs.Meaning.{in_order, formed}
use Rattle.zone.specs.Survey.{Found, Surveyed, Visited, named, place_from, place_of, records_of}
use Rattle.request.specs.declared.decide.Change.{Change}
use Rattle.request.specs.declared.decide.Change.TheVariants.{Stays, Writes}
use Rattle.request.specs.declared.decide.Standing.{Standing}
use Rattle.request.specs.declared.decide.Update.{Update as Sent}
use Rattle.request.specs.declared.refusal.Refusal.{Refusal}
use Rattle.request.specs.declared.Answered.{Answered}
use Rattle.update.specs.Rules as rules
use Rattle.update.specs.Rules.{Host, Update, Policy, keep_others, one_of_family, only_this, own_family, with_address, without_address, new_host, fits, Outcome}
use Rattle.update.specs.Meaning.{host_of, zone_of, family_of, policy_of, address_of, update_of}
use Rattle.update.specs.Spelling.{spelling_of, kept}
use Rattle.request.specs.Answers.{means, refusal_number, refused}
use Rattle.request.specs.Promise.{number_of, refusal_of, Promised}
use Rattle.lentzone.specs.Inner.{SurveyedIn, records_at}
use Rattle.request.specs.declared.answer.Answer.{Answer as Said}
use Rattle.request.specs.declared.lent.RequestAnswer.{RequestAnswer}
use Rattle.request.specs.Lent.{refusal_in}

-- the refusal that follows from a survey
pub record Refuses (n : Octets) (family policy : ℕ) (s : Survey) (r : ℕ) : Type 0 where
  pub refuses : (z : Zone) → Surveyed z n s → r ≡ refusal_of z n family policy
  -- of whatever the survey is
  pub broken : s.inorder ≡ false → r ≡ 17

-- what was visited, unless the request is refused
pub record Visits (z : Zone) (n : Octets) (family policy : ℕ) (r : Result Visit Refusal) : Type 0 where
  pub refusal_is : refused r ≡ refusal_of z n family policy
  pub visited : (v : Visit) → r ≡ Ok v → Visited z n v

-- the update that is sent about a name
abbrev pub update_at : Sent → Name → Update
update_at u n = update_of n u.dhcid u.family u.address

-- ---- what a request comes to: an answer, and one place written, or none where there is no such place

abbrev pub written : Zone → ℕ → Entry → Zone
written z place e = record { entries = set z.entries place e }

abbrev pub refused_zone : Zone → Refusal → Answered
refused_zone z r = record { refusal = refusal_number r; answer = 0; zone = z }

abbrev pub settled : Zone → Name → Change → Answered
settled z n (Stays a) = record { refusal = 0; answer = number_of (means a); zone = z }
settled z n (Writes place r) = record { refusal = 0; answer = 0; zone = written z place (place_of n r) }

-- what a request answers, with the zone that it leaves
abbrev pub with_zone : Zone → RequestAnswer → Answered
with_zone z r = record { refusal = r.refusal; answer = r.answer; zone = z }

-- what is promised of a request by value
abbrev pub Settles : (rules.Zone → Outcome) → Zone → Octets → ℕ → ℕ → Answered → Type 0
Settles request z n family policy r = Promised z n (refusal_of z n family policy) (request (zone_of z)) r

-- each name that stands after a request is spelled as it was, and a name that did not stand as the request has it
abbrev pub Spells : Octets → Zone → Zone → Type 0
Spells n z after = (k octets : Octets) → spelling_of after k ≡ some octets → octets ≡ kept n (spelling_of z k)

-- the rules' answer to a request about n; nothing is written where they leave the zone as it is, and else one place, which makes it theirs
pub record Decided (n : Octets) (z : Zone) (right : Outcome) (answer place : ℕ) (e : Entry) : Type 0 where
  pub answer_is : answer ≡ number_of right.answer
  pub stays : ¬ (place < 64) → zone_of z ≡ right.zone
  pub writes : place < 64 → (formed (written z place e) ≡ true) × (zone_of (written z place e) ≡ right.zone) × Spells n z (written z place e)
  pub needed : place < 64 → ¬ (right.zone ≡ zone_of z)

-- the same of a change, which writes at the place given, under the name that is to stand there; one that writes nothing is one at no place,
-- with any entry
abbrev pub Changes : Octets → Zone → Outcome → Maybe ℕ → (ℕ → Name) → Change → Type 0
Changes n z right at name (Stays a) = (e : Entry) → Decided n z right (number_of (means a)) 64 e
Changes n z right at name (Writes place r) = (at ≡ Some place) × Decided n z right 0 place (place_of (name place) r)

-- a request that adds a name, decided on a survey: right at every full name and for every zone in form that the survey is of, if that
-- name is written with the records at the free place
pub record Adds (request : Name → rules.Zone → Outcome) (s : Survey) (w : Change) : Type 0 where
  pub adds : (z : Zone) (n : Name) → formed z ≡ true → is_full (name_of n) ≡ true → Found z (name_of n) s
      → Changes (name_of n) z (request n (zone_of z)) s.free (λ p. n) w

-- where something stands
abbrev pub place_at : Maybe Standing → Maybe ℕ
place_at None = None
place_at (Some t) = Some t.place

-- these records at the place, if there is one
abbrev pub standing : Maybe ℕ → Records → Maybe Standing
standing None e = None
standing (Some place) e = Some (record { place = place; records = e })

-- the zone is in form, and o is what stands at the name n in it (b stands for places past the end)
pub record Seen (z : Zone) (n : Name) (b : Entry) (o : Maybe Standing) : Type 0 where
  pub form : formed z ≡ true
  pub found_is : place_at o ≡ place_from (named (name_of n)) 0 None z.entries
  pub records_is : (t : Standing) → o ≡ Some t → t.records ≡ records_of (get_or z.entries t.place b)

-- any other request, decided on what stands at the name: right wherever this is seen, if the records are written at its place and the name
-- stays that stands there
pub record Decides (request : Name → rules.Zone → Outcome) (o : Maybe Standing) (w : Change) : Type 0 where
  pub decides : (z : Zone) (n : Name) (b : Entry) → Seen z n b o
      → Changes (name_of n) z (request n (zone_of z)) (place_at o) (λ p. (get_or z.entries p b).name) w

-- what a function that decides promises of each call, its own promise being that one
abbrev pub Follows : (Maybe Standing → Change → Type 0) → (Name → rules.Zone → Outcome) → Type 0
Follows own request = (o : Maybe Standing) (w : Change) → own o w → Decides request o w

-- ---- on a zone that is lent

-- the survey, unless the request is refused
pub record Surveys (z : List ℕ) (n : Octets) (family policy : ℕ) (r : Result Survey Refusal) : Type 0 where
  pub refusal_is : refused r ≡ refusal_in z n family policy
  pub surveyed : (s : Survey) → r ≡ Ok s → SurveyedIn z n s

-- what stands at a place
abbrev pub StandingIn : List ℕ → Maybe ℕ → Maybe Standing → Type 0
StandingIn z place o = (place_at o ≡ place) × ((t : Standing) → o ≡ Some t → t.records ≡ records_at z t.place)

abbrev pub refused_by : Refusal → RequestAnswer
refused_by r = record { refusal = refusal_number r; answer = 0 }

abbrev pub answered_by : Said → RequestAnswer
answered_by a = record { refusal = 0; answer = number_of (means a) }

-- ---- what stands at a name, without the name

abbrev pub host_at : Name → Records → Host
host_at n e = host_of (place_of n e)

-- with the name n: a place of this kind, in order, that means h
pub record Stands (n : Name) (kind : ℕ) (h : Host) (r : Records) : Type 0 where
  pub kind_is : r.kind ≡ kind
  pub order_is : in_order (place_of n r) ≡ true
  pub host_is : host_at n r ≡ h

-- records r made of e: at every name with which e is in order they are of the same kind, and what they mean changes so
pub record Makes (change : Host → Host) (e r : Records) : Type 0 where
  pub makes : (n : Name) → in_order (place_of n e) ≡ true → Stands n e.kind (change (host_at n e)) r

-- records made for a new name
pub record Fresh (d : Dhcid) (family : ℕ) (a : Address) (r : Records) : Type 0 where
  pub stands : (n : Name) → is_full (name_of n) ≡ true → Stands n 2 (new_host (update_of n d family a)) r

-- the update u is about this family and address
pub record About (family : ℕ) (a : Address) (u : Update) : Type 0 where
  pub family_is : u.family ≡ family_of family
  pub address_is : u.address ≡ address_of (family_of family) a

abbrev pub emptied : Host → Host
emptied h = record { owner = h.owner; addresses = λ f. nothing }

-- as many addresses as an add by the policy leaves: any number under policy 0, one of its family under 1, one of the name under 2
unfoldable pub alone : Policy → Family → Host → Bool
alone keep_others f h = true
alone one_of_family f h = eqb (h.addresses f).count 1
alone only_this f h = eqb ((h.addresses four).count + (h.addresses six).count) 1

-- the addresses already as the add leaves them: that many, and its own among them
abbrev pub added : Policy → Update → Host → Bool
added p u h = alone p u.family h && (own_family u h).has u.address

pub record AlreadyAdded (family policy : ℕ) (a : Address) (e : Records) (r : Bool) : Type 0 where
  pub added_is : (n : Name) (u : Update) → About family a u → r ≡ added (policy_of policy) u (host_at n e)

-- the address there, room for it, the records with it and without it, for every update that is about it
pub record HasAddress (family : ℕ) (a : Address) (e : Records) (r : Bool) : Type 0 where
  pub has_is : (n : Name) (u : Update) → About family a u → r ≡ (own_family u (host_at n e)).has u.address

pub record HasRoom (family : ℕ) (a : Address) (e : Records) (r : Bool) : Type 0 where
  pub room_is : (n : Name) (u : Update) → About family a u → r ≡ fits u (host_at n e)

pub record Joined (family : ℕ) (a : Address) (e r : Records) : Type 0 where
  pub joins : (n : Name) (u : Update) → About family a u → in_order (place_of n e) ≡ true → fits u (host_at n e) ≡ true
      → Stands n e.kind (with_address u (host_at n e)) r

pub record Parted (family : ℕ) (a : Address) (e r : Records) : Type 0 where
  pub parts : (u : Update) → About family a u → Makes (without_address u) e r
