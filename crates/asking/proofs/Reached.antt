-- The lists that reach the bounds, of the calls that run. X removes its address and adds it again, so that the name is deleted before Y's first
-- request; then come the rounds; and the name is deleted once more after Y's last request. Assumes nothing.
use mathlib.Core.Path.{◌≡◌, refl, ◌∙◌, ap, subst}
use mathlib.Core.List.{List, [], ◌∷◌}
use Prim.Native.Nat.{ℕ, zero, suc, ◌+◌, ◌≤◌}
use native.Mathlib.Omega.{arith}
use Rattle.octets.specs.Count.{Octets}
use Rattle.update.specs.Rules.{NXDOMAIN}
use Rattle.job.specs.declared.job.Job.{Job}
use Rattle.job.specs.Jobs as jobs
use Rattle.job.specs.Jobs.{Arguments, End, before_a, before_b, ended, conflict, gave_up, after}
use Rattle.job.specs.Meaning.{job_of, at_stage, stage_number, stage_count}
use Rattle.serial.specs.Steps.{Fresh, no_job, one_more, start, own_steps}
use Rattle.serial.specs.Running.{running}
use Rattle.serial.specs.Values.{are_octets, Values, Held}
use Rattle.serial.specs.P12.{pipe, x_removes, x_adds, y_adds}
use Rattle.serial.proofs.Running.{taken}
use Rattle.serial.proofs.P12Zones.{small, full, clear, full_value, full_formed}
use Rattle.serial.proofs.P12Runs.{kx, ky, new_x_lem, new_y_lem, y_is, x_values, y_values}
use Rattle.asking.specs.Asking.{begun, unfinished, deletions, Add, requests, deleted_between}
use Rattle.asking.specs.Reached.{Reached, AllReached, Tight}
use Rattle.serial.proofs.XAdds.{kx⁺, new_x⁺, x⁺-values}
use Rattle.asking.proofs.Rounds.{kx₃, kx⁺₂, So, YAt, Octet, within, leaves, adds_again, round, back_is, p12, refused_is}

-- ---- the jobs: Y's add, then k times a remove and an add of X, and a remove of X

abbrev others : ℕ → List Job
others zero = kx ∷ []
others (suc k) = kx ∷ kx⁺ pipe small 1 ∷ others k

abbrev asked : ℕ → List Arguments
asked zero = x_removes ∷ []
asked (suc k) = x_removes ∷ x_adds pipe 1 ∷ asked k

abbrev all : ℕ → List Job
all k = ky ∷ others k

fresh_others : (k : ℕ) → Fresh running (asked k) (others k)
fresh_others zero = one_more new_x_lem no_job
fresh_others (suc k) = one_more new_x_lem (one_more (new_x⁺ pipe small 1) (fresh_others k))

other_values : (k : ℕ) → Values (others k)
unfolding Values
other_values zero = (x_values.0, tt)
other_values (suc k) = (x_values.0, ((x⁺-values pipe small 1 refl).0, other_values k))

y_first : YAt ky (before_a 0)
y_first = record { is = y_is; ok = taken.new_ok y_adds ky new_y_lem; value = y_values.0 }

-- No step yet.
begin : (k : ℕ) → So (all k) full (all k) 0 (λ v. 0)
begin k = record {
  list = start;
  held = unfold Held Values in (full_value, (y_values.0, other_values k));
  sent = unfold own_steps in refl;
  deleted = λ v. unfold deletions in refl;
}

-- ---- a list as an add that has ended

module _ (k : ℕ) {y : Job} {rest : List Job} {n : ℕ} {D : ℕ → ℕ} (so : So (all k) clear (y ∷ rest) n D) (e : End) (h : YAt y (ended e)) where
  abbrev list : Add running
  list = record {
    arguments = y_adds ∷ asked k;
    first_zone = full;
    last_zone = clear;
    first_jobs = all k;
    last_jobs = y ∷ rest;
    formed = full_formed;
    fresh_jobs = one_more new_y_lem (fresh_others k);
    steps = so.list;
    number = 0;
    job = y;
    its = refl;
    is_add = ap (λ (j : jobs.Job). j.arguments.kind) h.is ∙ (unfold y_adds in refl);
  }

  name_is : (job_of y).arguments.update.name ≡ pipe
  name_is = ap (λ (j : jobs.Job). j.arguments.update.name) h.is ∙ (unfold y_adds in refl)

  reached : {d : ℕ} → D n ≡ d → Reached e n d
  reached q = record {
    its = list;
    held = so.held;
    has_ended = ap (λ (j : jobs.Job). j.stage) h.is;
    requests = so.sent;
    deletions =
        ap (λ (o : Octets). deletions running so.list 0 o (own_steps running so.list 0)) name_is
        ∙ ap (deletions running so.list 0 pipe) so.sent ∙ so.deleted n ∙ q;
  }

-- ---- rounds

-- X removes its address and adds it again; the jobs that have not sent a request are those behind.
again : (k : ℕ) → So (all (suc k)) full (ky ∷ kx₃ ∷ kx⁺₂ ∷ others k) 0 (λ v. 0 + within 0 v)
again k = adds_again (all (suc k)) (leaves (all (suc k)) (begin (suc k)) 0 refl) 1 refl

-- Y is sent back once, and twice, and X adds its address again each time.
leads_2 : after 2 NXDOMAIN ≡ before_a 2
unfolding after
leads_2 = refl

leads_4 : after 4 NXDOMAIN ≡ before_a 4
unfolding after
leads_4 = refl

leads_6 : after 6 NXDOMAIN ≡ ended (gave_up 6)
unfolding after
leads_6 = refl

octet_2 : Octet (before_a 2)
unfolding are_octets stage_number stage_count
octet_2 m = refl

octet_4 : Octet (before_a 4)
unfolding are_octets stage_number stage_count
octet_4 m = refl

octet_6 : Octet (ended (gave_up 6))
unfolding are_octets stage_number stage_count
octet_6 m = refl

abbrev y_2 : Job
y_2 = at_stage (at_stage ky (before_b 1)) (before_a 2)

abbrev y_4 : Job
y_4 = at_stage (at_stage y_2 (before_b 3)) (before_a 4)

y_2_is : YAt y_2 (before_a 2)
y_2_is = back_is 0 (omega arith) ky y_first (before_a 2) leads_2 octet_2

y_4_is : YAt y_4 (before_a 4)
y_4_is = back_is 2 (omega arith) y_2 y_2_is (before_a 4) leads_4 octet_4

once : (k : ℕ) → So (all (suc (suc k))) full (y_2 ∷ kx₃ ∷ kx⁺₂ ∷ kx₃ ∷ kx⁺₂ ∷ others k) 2 (λ v. 0 + within 0 v + within 1 v)
once k =
    let js = all (suc (suc k)) in
    adds_again js (round 0 (omega arith) ky y_first js (before_a 2) leads_2 octet_2 (again (suc k)) 2 refl) 3 refl

twice : (k : ℕ) → So (all (suc (suc (suc k)))) full (y_4 ∷ kx₃ ∷ kx⁺₂ ∷ kx₃ ∷ kx⁺₂ ∷ kx₃ ∷ kx⁺₂ ∷ others k) 4 (λ v. 0 + within 0 v + within 1 v + within 3 v)
twice k =
    let js = all (suc (suc (suc k))) in
    adds_again js (round 2 (omega arith) y_2 y_2_is js (before_a 4) leads_4 octet_4 (once (suc k)) 4 refl) 5 refl

-- ---- the four

-- Theorem: the bounds are reached.
pub all_reached : AllReached
unfolding begun unfinished
all_reached = record {
  two = reached 1 (p12 0 (omega arith) ky y_first (all 1) (again 0) 2 refl) (conflict 2) (refused_is 0 (omega arith) ky y_first) refl;
  four = reached 2 (p12 2 (omega arith) y_2 y_2_is (all 2) (once 0) 4 refl) (conflict 4) (refused_is 2 (omega arith) y_2 y_2_is) refl;
  six = reached 3 (p12 4 (omega arith) y_4 y_4_is (all 3) (twice 0) 6 refl) (conflict 6) (refused_is 4 (omega arith) y_4 y_4_is) refl;
  gave_up =
      reached 4 (leaves (all 4) (adds_again (all 4) (round 4 (omega arith) y_4 y_4_is (all 4) (ended (gave_up 6)) leads_6 octet_6 (twice 1) 6 refl) 7 refl) 8 refl)
      (gave_up 6) (back_is 4 (omega arith) y_4 y_4_is (ended (gave_up 6)) leads_6 octet_6) refl;
}

-- ---- no smaller bound

bounded : {e : End} {n d : ℕ} (f : ℕ → ℕ) → Reached e n d → ((a : Add running) → requests running a ≤ f (deleted_between running a)) → n ≤ f d
bounded {n = n} {d = d} f r h =
    subst (λ (m : ℕ). m ≤ f d) r.requests (subst (λ (m : ℕ). requests running r.its ≤ f m) r.deletions (h r.its))

-- Theorem: no smaller bound holds.
pub tight : Tight
tight = record {
  bound = λ f h. (bounded f all_reached.two h, bounded f all_reached.four h, bounded f all_reached.six h);
  given = λ d h. let g = all_reached.gave_up in subst (λ (m : ℕ). d ≤ m) g.deletions (h g.its 6 g.has_ended);
}
