-- How names are spelled after a request, after a list of job steps, and after whole jobs in an order. Document 02, a).
use Rattle.std.specs.Prelude.{◌≡◌, true, List, [], ◌∷◌, ℕ}
use Rattle.std.proofs.Math.Option.{some}
use Rattle.octets.specs.Count.{Octets}
use Rattle.dname.specs.Name.{key}
use Rattle.zone.specs.declared.Zone.{Zone}
use Rattle.update.specs.Rules as rules
use Rattle.update.specs.Rules.{there, Update, Policy, keep_others, Outcome, success, request_a, request_b, remove_address, remove_name}
use Rattle.update.specs.Meaning.{zone_of}
use Rattle.update.specs.Spelling.{Spelling, spelling_of, respelled}
use Rattle.lentzone.specs.Decode.{zone_in}
use Rattle.job.specs.Jobs.{remove, Arguments, End, done, kept, Stage, step, Sends, has_ended, sends}
use Rattle.serial.specs.Steps.{Calls, Steps, start, stepped, refused}
use Rattle.serial.specs.Order.{InTurn, nobody, next}
use Rattle.serial.specs.Demand.{Story, Fitting}
use Rattle.serial.specs.Running.{running}
use Rattle.serial.specs.OnOctets.{on_octets}
use Rattle.serial.specs.P12.{address1, x_update, x_adds}

-- ---- requests

-- A spelling of a zone: a name is spelled exactly where it stands.
abbrev pub SpellingFor : Spelling → rules.Zone → Type 0
SpellingFor sp z = (k : Octets) → there (sp k) ≡ there (z.at k)

-- Any of the four requests, and what it comes to.
pub data Asked (u : Update) (z : rules.Zone) : Outcome → Type 0 where
  asks_a : Asked u z (request_a u z)
  asks_b : (p : Policy) → Asked u z (request_b p u z)
  asks_first : Asked u z (remove_address u z)
  asks_second : Asked u z (remove_name u z)

-- What the rule comes to at each name. A name that stood and stands has the octets that it had, whoever wrote to it; one that request A adds
-- has those of the request; one that was deleted and is added again has the new ones; no other name is respelled.
pub record KeepsOctets : Type 0 where
  pub stood : (u : Update) (z : rules.Zone) (o : Outcome) (sp : Spelling) → Asked u z o → SpellingFor sp z
      → (k : Octets) → there (z.at k) ≡ true → there (o.zone.at k) ≡ true → respelled u.name o.zone sp k ≡ sp k
  pub new : (u : Update) (z : rules.Zone) (sp : Spelling) → SpellingFor sp z → (request_a u z).answer ≡ success
      → respelled u.name (request_a u z).zone sp (key u.name) ≡ some u.name
  pub again : (u v : Update) (z : rules.Zone) (sp : Spelling) → (remove_name u z).answer ≡ success → key v.name ≡ key u.name
      → (request_a v (remove_name u z).zone).answer ≡ success
      → respelled v.name (request_a v (remove_name u z).zone).zone (respelled u.name (remove_name u z).zone sp) (key u.name) ≡ some v.name
  pub elsewhere : (u : Update) (z : rules.Zone) (o : Outcome) (sp : Spelling) → Asked u z o → SpellingFor sp z
      → (k : Octets) → ¬ (key u.name ≡ k) → respelled u.name o.zone sp k ≡ sp k
  -- and it is a spelling of the zone again
  pub spells_again : (n : Octets) (z : rules.Zone) (sp : Spelling) → SpellingFor (respelled n z sp) z

-- Of a zone by value: the spelling is one of what it means, and each name has the key by which it is found.
pub record SpellsZone (z : Zone) : Type 0 where
  pub spells : SpellingFor (spelling_of z) (zone_of z)
  pub keyed : (k octets : Octets) → spelling_of z k ≡ some octets → key octets ≡ k

-- ---- lists of steps

-- The list of steps: each that is not refused respells as a request about its job's name.
module _ (C : Calls) where
  unfoldable pub spelled_by_steps : {z₀ : C.Z} {ks₀ : List C.J} {z : C.Z} {ks : List C.J} → Steps C z₀ ks₀ z ks → Spelling → Spelling
  spelled_by_steps start s = s
  spelled_by_steps (stepped l i k r g p q) s = respelled (C.job_of k).arguments.update.name (C.zone_of (C.zone r)) (spelled_by_steps l s)
  spelled_by_steps (refused l y k r p q) s = spelled_by_steps l s

  -- The names of the last zone are spelled so.
  abbrev pub SpelledBySteps : (C.Z → Spelling) → Type 0
  SpelledBySteps spelling = (z₀ z : C.Z) (ks₀ ks : List C.J) (l : Steps C z₀ ks₀ z ks) → spelling z ≡ spelled_by_steps l (spelling z₀)

-- Of the calls that run, and of those on a zone that is kept as octets.
pub record Spelled : Type 1 where
  pub by_value : SpelledBySteps running spelling_of
  pub on_lent : SpelledBySteps on_octets (λ (z : List ℕ). spelling_of (zone_in z))

-- A whole job, request by request, and whole jobs in turn.
unfoldable pub spelled_by_job : {j : Arguments} {z y : rules.Zone} {s : Stage} {e : End} → Sends j z s y e → Spelling → Spelling
spelled_by_job has_ended sp = sp
spelled_by_job {j} (sends {z = z} {s = s} h) sp = spelled_by_job h (respelled j.update.name (step j z s).zone sp)

unfoldable pub spelled_in_turn : {js : List Arguments} {ends : List End} {x z : rules.Zone} {o : List ℕ} → InTurn js ends x o z → Spelling → Spelling
spelled_in_turn nobody sp = sp
spelled_in_turn (next i j e d g h m v l) sp = spelled_in_turn l (spelled_by_job m sp)

-- ---- what can't be asked

unfoldable pub OBOE : Octets
OBOE = 4 ∷ 79 ∷ 66 ∷ 79 ∷ 69 ∷ 0 ∷ []

unfoldable pub oboe : Octets
oboe = 4 ∷ 111 ∷ 98 ∷ 111 ∷ 101 ∷ 0 ∷ []

-- X removes its address from OBOE.
unfoldable pub x_removes_capitals : Arguments
x_removes_capitals = record { kind = remove; update = x_update OBOE address1; policy = keep_others }

-- A list of steps that one order fits, and that order does not spell the name as the list does. X holds OBOE with one address. X's remove of it
-- takes its first step, X's add of oboe with the same address is done by its request B, and the remove finds an address: the name is kept, and
-- keeps its octets. Whole, the remove has to go first, since the name stands at the end; so it deletes the name, and the add writes a new one.
-- The remove goes first though it ended last: jobs can't be asked to stand in the order of their ends.
pub record SpellsOtherwise (C : Calls) : Type 0 where
  pub story : Story C
  pub jobs : story.arguments ≡ x_removes_capitals ∷ x_adds oboe 1 ∷ []
  pub ends : story.ends ≡ kept ∷ done 2 ∷ []
  pub first : Spelling
  pub held : first (key oboe) ≡ some OBOE
  pub by_list : spelled_by_steps C story.steps first (key oboe) ≡ some OBOE
  pub fits : Fitting C story (0 ∷ 1 ∷ [])
  pub no_other : (o : List ℕ) → Fitting C story o → o ≡ 0 ∷ 1 ∷ []
  pub by_order : (o : List ℕ) (e : Fitting C story o)
      → spelled_in_turn e.in_turn first (key oboe) ≡ some oboe
