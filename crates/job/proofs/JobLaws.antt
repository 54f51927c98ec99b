-- What a job's struct means: its stage, its kind, and a new job. Assumes nothing.
use mathlib.Core.Path.{◌≡◌, refl, sym, ◌∙◌, ap}
use mathlib.Core.Bool.{Bool, true, false, cond}
use mathlib.Core.Option.{Option, none, some}
use Prim.Native.Nat.{ℕ, suc}
use native.Mathlib.Omega.{arith}
use lib.Dec.{eqb}
use borrow.Author.Tests.{eq-eqb}
use Rattle.octets.proofs.BoolLaws.{and_right}
use Rattle.octets.specs.Count.{Octets}
use Rattle.dname.specs.declared.name.Name.{Name}
use Rattle.zone.specs.declared.entry.Dhcid.{Dhcid}
use Rattle.zone.specs.declared.entry.Address.{Address}
use Rattle.update.specs.Rules as abstract
use Rattle.update.specs.Rules.{Answer, success, NXDOMAIN, YXDOMAIN, YXRRSET, NXRRSET, no_room, keep_others, Policy, request_a, request_b, remove_address, remove_name}
use Rattle.dname.specs.Name.{name_of, is_full}
use Rattle.update.specs.Meaning.{listed, policy_of, update_of}
use Rattle.update.proofs.NumberLaws.{policy_zero}
use Rattle.job.specs.declared.job.Job.{Job}
use Rattle.job.specs.declared.fresh.NewJob.{NewJob}
use Rattle.job.specs.Jobs.{add, remove, Arguments, Stage, before_a, before_b, before_first, before_second, ended, End, done, conflict, gave_up, not_ours, gone, kept, among, possible, after, passed, after_first, after_second, step}
use Rattle.job.specs.Meaning.{stage_number, numbered, stage_at, is_end, allowed, or_kept, stage_count, stage_of, can_have, is_add, arguments_of, job_of, numbers_listed, has_ended, fresh_add, fresh_remove, blank}
use Rattle.job.proofs.StageLaws.{Listed, can_stage}
use Rattle.job.specs.Promise.{new_refusal, new_job}

-- ---- a stage's number and count stand for the stage

stage_at_lem : (s : Stage) (m : ℕ) → stage_at (stage_number s) (stage_count s m) ≡ some s
unfolding stage_at numbered stage_number stage_count
stage_at_lem (before_a n) m = refl
stage_at_lem (before_b n) m = refl
stage_at_lem before_first m = refl
stage_at_lem before_second m = refl
stage_at_lem (ended (done n)) m = refl
stage_at_lem (ended (conflict n)) m = refl
stage_at_lem (ended (End.no_room n)) m = refl
stage_at_lem (ended (gave_up n)) m = refl
stage_at_lem (ended not_ours) m = refl
stage_at_lem (ended gone) m = refl
stage_at_lem (ended kept) m = refl

pub stage_back : (s : Stage) (m : ℕ) → stage_of (stage_number s) (stage_count s m) ≡ s
unfolding stage_of
stage_back s m = ap or_kept (stage_at_lem s m)

pub can_back : (s : Stage) (m : ℕ) → can_have (stage_number s) (stage_count s m) ≡ possible s
unfolding can_have
can_back s m = ap allowed (stage_at_lem s m)

-- ---- a step keeps the kind

abbrev pub of_add : Stage → Bool
of_add s = is_add (stage_number s)

add_after : (n : ℕ) (a : Answer) → of_add (after n a) ≡ true
unfolding after is_add stage_number
add_after n success = refl
add_after n YXDOMAIN = refl
add_after n NXDOMAIN = go (eqb n 6)
  where
    go : (b : Bool) → of_add (cond b (ended (gave_up n)) (before_a n)) ≡ true
    go true = refl
    go false = refl
add_after n YXRRSET = refl
add_after n NXRRSET = refl
add_after n no_room = refl

remove_after : (b : Bool) (s t : Stage) → of_add s ≡ false → of_add t ≡ false → of_add (cond b s t) ≡ false
remove_after true s t h k = h
remove_after false s t h k = k

pub kind_step : (a : Arguments) (z : abstract.Zone) (s : Stage) → of_add (step a z s).stage ≡ of_add s
unfolding step after_first after_second
kind_step a z (before_a n) = add_after (suc n) (request_a a.update z).answer ∙ (unfold is_add stage_number in refl)
kind_step a z (before_b n) = add_after (suc n) (request_b a.policy a.update z).answer ∙ (unfold is_add stage_number in refl)
kind_step a z before_first =
    remove_after (passed (remove_address a.update z).answer) before_second (ended not_ours) (unfold is_add stage_number in refl) (unfold is_add stage_number in refl)
    ∙ (unfold is_add stage_number in refl)
kind_step a z before_second =
    remove_after (passed (remove_name a.update z).answer) (ended gone) (ended kept) (unfold is_add stage_number in refl) (unfold is_add stage_number in refl)
    ∙ (unfold is_add stage_number in refl)
kind_step a z (ended e) = refl

-- ---- a job that has ended changes nothing when stepped

pub ended_stays : (j : Job) (z : abstract.Zone) → has_ended j ≡ 1 → step (arguments_of j) z (job_of j).stage ≡ record { zone = z; stage = (job_of j).stage }
unfolding has_ended job_of stage_of step
ended_stays j z h = go (stage_at j.stage j.count) h
  where
    go : (o : Option Stage) → ◌≡◌ {A = ℕ} (cond (is_end o) 1 0) 1 → step (arguments_of j) z (or_kept o) ≡ record { zone = z; stage = or_kept o }
    go none q = absurd (omega arith)
    go (some (before_a n)) q = absurd (omega arith)
    go (some (before_b n)) q = absurd (omega arith)
    go (some before_first) q = absurd (omega arith)
    go (some before_second) q = absurd (omega arith)
    go (some (ended e)) q = refl

-- ---- a job whose numbers are listed: its stage is there, has that number, and can have that count

pub stage_of_lem : (number count : ℕ) (l : Listed number count) → stage_of number count ≡ l.stage
unfolding stage_of
stage_of_lem number count l = ap or_kept l.found

pub number_back : (number count : ℕ) → can_have number count ≡ true → stage_number (stage_of number count) ≡ number
number_back number count h = let l = can_stage number count h in ap stage_number (stage_of_lem number count l) ∙ l.number_is

module _ (j : Job) (h : numbers_listed j ≡ true) where
  pub listed_stage : can_have j.stage j.count ≡ true
  unfolding numbers_listed
  listed_stage = and_right (listed j.family (cond (is_add j.stage) j.policy 0)) (can_have j.stage j.count) h

  pub possible_before : possible (job_of j).stage ≡ true
  unfolding job_of
  possible_before =
      let l = can_stage j.stage j.count listed_stage in
      ap possible (stage_of_lem j.stage j.count l) ∙ l.can

-- ---- a new job that is not refused

new_listed : (n : Octets) (family policy : ℕ) → new_refusal n family policy ≡ 0 → listed family policy ≡ true
unfolding new_refusal
new_listed n family policy e = go (listed family policy) (is_full n) e
  where
    go : (a b : Bool) → ◌≡◌ {A = ℕ} (cond a (cond b 0 11) 18) 0 → a ≡ true
    go true b q = refl
    go false b q = absurd (omega arith)

new_full : (n : Octets) (family policy : ℕ) → new_refusal n family policy ≡ 0 → is_full n ≡ true
unfolding new_refusal
new_full n family policy e = go (listed family policy) (is_full n) e
  where
    go : (a b : Bool) → ◌≡◌ {A = ℕ} (cond a (cond b 0 11) 18) 0 → b ≡ true
    go a true q = refl
    go true false q = absurd (omega arith)
    go false false q = absurd (omega arith)

module _ (refusal : ℕ) (f : Job) (r : NewJob) (p : r ≡ new_job refusal f) (e : r.refusal ≡ 0) where
  pub new_none : refusal ≡ 0
  unfolding new_job
  new_none = sym (ap (λ (u : NewJob). u.refusal) p) ∙ e

  pub new_is : r.job ≡ f
  unfolding new_job
  new_is = ap (λ (u : NewJob). u.job) p ∙ ap (λ (b : Bool). cond b f blank) (eq-eqb refusal 0 new_none)

module _ (n : Name) (d : Dhcid) (family : ℕ) (a : Address) where
  pub add_is : (policy : ℕ) → job_of (fresh_add n d family a policy) ≡ record {
    arguments = record { kind = add; update = update_of n d family a; policy = policy_of policy };
    stage = before_a 0;
  }
  unfolding job_of arguments_of fresh_add stage_of stage_at numbered stage_number is_add
  add_is policy = refl

  pub remove_is : job_of (fresh_remove n d family a) ≡ record {
    arguments = record { kind = remove; update = update_of n d family a; policy = keep_others };
    stage = before_first;
  }
  unfolding job_of arguments_of fresh_remove stage_of stage_at numbered stage_number is_add
  remove_is = ap (λ (p : Policy). record { arguments = record { kind = remove; update = update_of n d family a; policy = p }; stage = before_first }) policy_zero

  pub add_listed : (policy : ℕ) → new_refusal (name_of n) family policy ≡ 0 → numbers_listed (fresh_add n d family a policy) ≡ true
  unfolding numbers_listed fresh_add is_add can_have stage_at numbered stage_number possible among
  add_listed policy e = rw (new_listed (name_of n) family policy e) refl

  pub add_full : (policy : ℕ) → new_refusal (name_of n) family policy ≡ 0 → is_full (name_of (fresh_add n d family a policy).name) ≡ true
  unfolding fresh_add
  add_full policy e = new_full (name_of n) family policy e

  pub remove_listed : new_refusal (name_of n) family 0 ≡ 0 → numbers_listed (fresh_remove n d family a) ≡ true
  unfolding numbers_listed fresh_remove is_add can_have stage_at numbered stage_number possible among
  remove_listed e = rw (new_listed (name_of n) family 0 e) refl

  pub remove_full : new_refusal (name_of n) family 0 ≡ 0 → is_full (name_of (fresh_remove n d family a).name) ≡ true
  unfolding fresh_remove
  remove_full e = new_full (name_of n) family 0 e
