-- P12 and its like as lists of steps: calls made of the definitions themselves, and a zone where X holds a name. Assumes nothing.
use mathlib.Core.Path.{◌≡◌, refl, sym, ◌∙◌, ap, subst}
use mathlib.Core.Bool.{Bool, true, false, cond, ◌||◌, true≢false}
use mathlib.Core.List.{List, [], ◌∷◌}
use mathlib.Core.Logic.{◌⊎◌, inl, inr}
use mathlib.Core.Option.{none, some}
use Prim.Native.Nat.{ℕ, ◌≤◌}
use native.Mathlib.Omega.{arith}
use Rattle.octets.specs.Compare.{same_octets}
use Rattle.dname.specs.Name.{key}
use Rattle.octets.specs.Count.{Octets, member, distinct, Counts}
use Rattle.addresses.specs.Addresses.{Family, four, six, Addresses, nothing, including, excluding}
use Rattle.octets.proofs.CountLaws.{counts_nothing, counts_list}
use Rattle.update.specs.Rules.{Host, Zone, there, GoodHost, Form, with, held_by, empty, request_a, request_b, remove_address, remove_name, with_name, without_name, with_address, without_address, delete_name}
use Rattle.job.specs.Meaning.{stage_number}
use Rattle.job.specs.Jobs.{Arguments, End, done, conflict, gone, before_second, ended, Job, fresh, after, after_first, after_second, step, Sends, has_ended, sends}
use Rattle.serial.specs.P12.{pipe, x_dhcid, y_dhcid, address1, x_removes, y_adds, alone, one_address, x_host, held_at, held_by_x}
use Rattle.serial.specs.Steps.{Calls, Promises, no_job, one_more, start, stepped}
use Rattle.serial.specs.Order.{same_answer, times, InTurn, nobody, next, Explains}
use Rattle.serial.specs.Demand.{Story, HeldHaveAddress, Serializable}
use Rattle.update.proofs.ZoneLaws.{some≢none}
use Rattle.serial.proofs.Demand.{stronger, demand3}
use Rattle.serial.proofs.TwoJobs.{two_explain, of_two}
use Rattle.serial.proofs.RequestLaws.{whole, whole_only}

pub record Result : Type 0 where
  pub refusal : ℕ
  pub zone : Zone
  pub job : Job

abbrev pub step_of : Zone → Job → Result
step_of z k = record {
  refusal = 0;
  zone = (step k.arguments z k.stage).zone;
  job = record { arguments = k.arguments; stage = (step k.arguments z k.stage).stage };
}

unfoldable pub by_rule : Calls
by_rule = record {
  Z = Zone;
  J = Job;
  R = Result;
  zone_of = λ z. z;
  job_of = λ k. k;
  refusal = λ (r : Result). r.refusal;
  zone = λ (r : Result). r.zone;
  job = λ (r : Result). r.job;
  Formed = Form;
  New = λ j k. k ≡ record { arguments = j; stage = fresh j };
  Step = λ z k r. r ≡ step_of z k;
}

pub by_rule_lem : Promises by_rule
unfolding by_rule
by_rule_lem = record {
  formed = λ z g. g;
  new = λ j k e. e;
  zone_after = λ z k r e q. ap (λ (u : Result). u.zone) e;
  job_after = λ z k r e q. ap (λ (u : Result). u.job) e;
}

-- ---- X holds pipe, with one address

module _ (s : Addresses) (few : s.count ≤ 4) (counted : Counts s.count s.has) where
  good_x : GoodHost (x_host s)
  unfolding x_host
  good_x = record { at_most_four = four_each; counted = each }
    where
      four_each : (f : Family) → ((x_host s).addresses f).count ≤ 4
      four_each four = few
      four_each six = omega arith

      each : (f : Family) → Counts ((x_host s).addresses f).count ((x_host s).addresses f).has
      each four = counted
      each six = counts_nothing

  pub form_at : (n : Octets) → Form (held_at n s)
  unfolding member distinct
  form_at n = record {
    few = omega arith;
    names = record { list = n ∷ []; once = refl; number = refl; exactly = λ k. on (same_octets n k) };
    hosts = λ k h e. host (same_octets n k) h e;
  }
    where
      on : (b : Bool) → there (cond b (some (x_host s)) none) ≡ (b || false)
      on true = refl
      on false = refl

      host : (b : Bool) (h : Host) → cond b (some (x_host s)) none ≡ some h → GoodHost h
      host true h e = let q : x_host s ≡ h = cc in subst GoodHost q good_x
      host false h e = absurd (some≢none (sym e))

pub form_one : (n : Octets) → Form (held_at n one_address)
form_one = form_at one_address (unfold alone in omega arith) (unfold alone in counts_list (address1 ∷ []) (unfold distinct member in refl))

pub form_pipe : Form (held_by_x one_address)
unfolding held_by_x
form_pipe = form_one pipe

form_none : Form (held_by_x nothing)
unfolding held_by_x
form_none = form_at nothing (omega arith) counts_nothing pipe

abbrev pub new_job : Arguments → Job
new_job j = record { arguments = j; stage = fresh j }

-- ---- two jobs, the second's two steps between those of the first

module _ (z : Zone) (a b : Arguments) where
  abbrev pub r₁ : Result
  r₁ = step_of z (new_job a)

  abbrev pub r₂ : Result
  r₂ = step_of r₁.zone (new_job b)

  abbrev pub r₃ : Result
  r₃ = step_of r₂.zone r₂.job

  abbrev pub r₄ : Result
  r₄ = step_of r₃.zone r₁.job

  unfoldable pub between : Form z → (d e : End) → r₄.job.stage ≡ ended d → r₃.job.stage ≡ ended e → Story by_rule
  unfolding by_rule
  between g d e p q = record {
    arguments = a ∷ b ∷ [];
    first_zone = z;
    last_zone = r₄.zone;
    first_jobs = new_job a ∷ new_job b ∷ [];
    last_jobs = r₄.job ∷ r₃.job ∷ [];
    ends = d ∷ e ∷ [];
    formed = g;
    fresh_jobs = one_more refl (one_more refl no_job);
    steps = stepped (stepped (stepped (stepped start 0 (new_job a) r₁ refl refl refl) 1 (new_job b) r₂ refl refl refl) 1 r₂.job r₃ refl refl refl) 0 r₁.job r₄ refl refl refl;
    all_ended = rw (p, q) refl;
  }

-- P12: X removes its only address, Y adds in between. Y ends in conflict, and the name is gone.
abbrev z₀ : Zone
z₀ = held_by_x one_address

pub p12_ends : ((r₄ z₀ x_removes y_adds).job.stage ≡ ended gone) × ((r₃ z₀ x_removes y_adds).job.stage ≡ ended (conflict 2))
unfolding held_by_x x_host alone x_removes y_adds pipe x_dhcid y_dhcid step fresh request_a request_b remove_address delete_name remove_name after after_first after_second held_by same_octets key with_address without_address with including excluding with_name without_name empty member
p12_ends = (refl, refl)

p12_gone : (r₄ z₀ x_removes y_adds).zone.at (key pipe) ≡ none
unfolding held_by_x x_host alone x_removes y_adds pipe x_dhcid y_dhcid step fresh request_a request_b remove_address delete_name remove_name after after_first held_by same_octets key with_address without_address with including excluding with_name without_name empty member
p12_gone = refl

pub p12 : Story by_rule
p12 = between z₀ x_removes y_adds form_pipe gone (conflict 2) p12_ends.0 p12_ends.1

-- Demand 3 speaks of it.
pub p12_held : HeldHaveAddress z₀
unfolding held_by_x
p12_held k h d e o = go (same_octets pipe k) e
  where
    go : (b : Bool) → cond b (some (x_host one_address)) none ≡ some h → empty h ≡ false
    go true q = let r : x_host one_address ≡ h = cc in rw (sym r) (unfold x_host alone empty in refl)
    go false q = absurd (some≢none (sym q))

pub p12_serial : Serializable by_rule p12
unfolding p12 between by_rule
p12_serial = demand3 by_rule by_rule_lem p12 p12_held

-- As Y first and X after: that order explains it.
pub p12_order : Explains (x_removes ∷ y_adds ∷ []) (gone ∷ conflict 2 ∷ []) z₀ (r₄ z₀ x_removes y_adds).zone (1 ∷ 0 ∷ [])
unfolding times
p12_order =
    two_explain x_removes y_adds gone (conflict 2) refl refl
    (next 1 y_adds (conflict 2) (conflict 2) refl refl y_conflict (λ k. unfold same_answer stage_number in refl) (next 0 x_removes gone gone refl refl x_gone (λ k. unfold same_answer stage_number in refl) nobody))
    refl refl
  where
    y_conflict : Sends y_adds z₀ (fresh y_adds) z₀ (conflict 2)
    y_conflict = unfold held_by_x x_host alone y_adds pipe x_dhcid y_dhcid step fresh request_a request_b after held_by same_octets key in sends (sends has_ended)

    x_gone : Sends x_removes z₀ (fresh x_removes) (r₄ z₀ x_removes y_adds).zone gone
    x_gone = unfold held_by_x x_host alone x_removes y_adds pipe x_dhcid y_dhcid step fresh request_a request_b remove_address delete_name remove_name after after_first after_second held_by same_octets key with_address without_address with including excluding with_name without_name empty member in sends (sends has_ended)

-- Not as X first and Y after: then Y's add would be done.
x_alone : (whole x_removes z₀).stage ≡ ended gone
unfolding whole held_by_x x_host alone x_removes pipe x_dhcid step fresh remove_address delete_name remove_name after_first after_second held_by same_octets key without_address with excluding with_name without_name empty member
x_alone = refl

y_after_x : (whole y_adds (whole x_removes z₀).zone).stage ≡ ended (done 1)
unfolding whole held_by_x x_host alone x_removes y_adds pipe x_dhcid y_dhcid step fresh request_a request_b remove_address delete_name remove_name after after_first after_second held_by same_octets key with_address without_address with including excluding with_name without_name empty member
y_after_x = refl

x_then_y : {z : Zone} → InTurn (x_removes ∷ y_adds ∷ []) (gone ∷ conflict 2 ∷ []) z₀ (0 ∷ 1 ∷ []) z → ⊥
x_then_y (next {y = y} i j e d p q m v (next {y = x} i' j' e' d' p' q' m' v' t)) =
    let s : x_removes ≡ j = cc in
    let s' : y_adds ≡ j' = cc in
    let n : Sends x_removes z₀ (fresh x_removes) y d = subst (λ (u : Arguments). Sends u z₀ (fresh u) y d) (sym s) m in
    let n' : Sends y_adds y (fresh y_adds) x d' = subst (λ (u : Arguments). Sends u y (fresh u) x d') (sym s') m' in
    let w : (whole x_removes z₀).zone ≡ y = (whole_only x_removes z₀ y d gone x_alone n).0 in
    let u : done 1 ≡ d' = (whole_only y_adds y x d' (done 1) (ap (λ (k : Zone). (whole y_adds k).stage) (sym w) ∙ y_after_x) n').1 in
    let c : conflict 2 ≡ e' = cc in
    let r : same_answer d' e' ≡ true = v' (ap (λ (k : Arguments). k.kind) (sym s') ∙ (unfold y_adds in refl)) in
    true≢false (sym r ∙ ap (λ (k : End). same_answer k e') (sym u) ∙ ap (same_answer (done 1)) (sym c) ∙ (unfold same_answer stage_number in refl))

pub p12_no_other : (z : Zone) (o : List ℕ) → Explains (x_removes ∷ y_adds ∷ []) (gone ∷ conflict 2 ∷ []) z₀ z o → o ≡ 1 ∷ 0 ∷ []
p12_no_other z o x = go (of_two x_removes y_adds gone (conflict 2) refl refl x)
  where
    go : (o ≡ 0 ∷ 1 ∷ []) ⊎ (o ≡ 1 ∷ 0 ∷ []) → o ≡ 1 ∷ 0 ∷ []
    go (inl p) = absurd (x_then_y (subst (λ (u : List ℕ). InTurn (x_removes ∷ y_adds ∷ []) (gone ∷ conflict 2 ∷ []) z₀ u z) p x.in_turn))
    go (inr p) = p

-- X has sent its first request when Y sends its own.
pub p12_began : (r₁ z₀ x_removes y_adds).job.stage ≡ before_second
unfolding held_by_x x_host alone x_removes pipe x_dhcid step fresh remove_address after_first held_by same_octets key
p12_began = refl

-- The same from a zone that demand 3 does not ask about: X holds the name, with no address.
abbrev bare₀ : Zone
bare₀ = held_by_x nothing

bare_ends : ((r₄ bare₀ x_removes y_adds).job.stage ≡ ended gone) × ((r₃ bare₀ x_removes y_adds).job.stage ≡ ended (conflict 2))
unfolding held_by_x x_host x_removes y_adds pipe x_dhcid y_dhcid step fresh request_a request_b remove_address delete_name remove_name after after_first after_second held_by same_octets key with_address without_address with including excluding with_name without_name empty member
bare_ends = (refl, refl)

pub from_bare : Story by_rule
from_bare = between bare₀ x_removes y_adds form_none gone (conflict 2) bare_ends.0 bare_ends.1

pub from_bare_serial : Serializable by_rule from_bare
from_bare_serial = (stronger by_rule by_rule_lem from_bare).0
