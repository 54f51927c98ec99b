-- P12 of the calls that run, with every struct written out. Assumes nothing.
use mathlib.Core.Path.{◌≡◌, refl, sym, ◌∙◌, ap}
use mathlib.Core.Bool.{true}
use mathlib.Core.List.{[], ◌∷◌, ◌++◌}
use mathlib.Core.Option.{none, some}
use Prim.Native.Nat.{ℕ, suc}
use native.Mathlib.Omega.{arith}
use lib.ListN.{length, replicate}
use Rattle.octets.specs.Compare.{same_octets}
use Rattle.octets.specs.Count.{Octets}
use Rattle.addresses.specs.Addresses.{four, nothing}
use Rattle.dname.specs.Name.{labels_of, limited, shape_of, is_full, name_of}
use Rattle.zone.specs.declared.entry.Address.{Address}
use Rattle.zone.specs.declared.entry.Dhcid.{Dhcid}
use Rattle.zone.specs.declared.Zone.{Zone}
use Rattle.zone.specs.Meaning.{formed}
use Rattle.update.specs.Rules as rules
use Rattle.update.specs.Meaning.{zone_of, listed, family_of, policy_of, update_of}
use Rattle.job.specs.declared.job.Job.{Job}
use Rattle.job.specs.Jobs as jobs
use Rattle.job.specs.Jobs.{Stage, State, before_a, before_b, before_first, before_second, ended, conflict, gone, fresh, step}
use Rattle.job.specs.Meaning.{job_of, at_stage, stage_number, stage_count, fresh_add, fresh_remove}
use Rattle.job.specs.Promise.{new_refusal, new_job}
use Rattle.step.specs.Promise.{step_refusal, step_of, StepPromise}
use Rattle.step.proofs.AfterLaws.{unrefused}
use Rattle.update.proofs.ZoneLaws.{some≢none}
use Rattle.request.specs.Inner.{Spells}
use Rattle.request.proofs.SpellingLaws.{spells_same, spelled_by}
use Rattle.serial.specs.Running.{NewCall, new_add, new_remove, running}
use Rattle.serial.specs.Values.{are_octets, JobValue}
use Rattle.serial.specs.P12.{pipe, x_dhcid, y_dhcid, net10, x_removes, y_adds, alone, one_address, x_host, held_by_x, no_names, P12, P12Runs}
use Rattle.serial.proofs.Running.{Ok, kept_promises, taken}
use Rattle.serial.proofs.RunningCases.{p12_runs}
use Rattle.serial.proofs.P12Zones.{name_in, Pipe, small, of_x, full, bare, clear, full_value, bare_value, clear_value, full_formed, bare_formed, clear_formed, full_zone, bare_zone, clear_zone, held_spelled, clear_spelled}
use Rattle.serial.proofs.RequestLaws.{state}
use Rattle.serial.proofs.P12Steps.{x_takes, y_asks, y_conflicts, x_deletes}
use Rattle.serial.proofs.OneName.{no4, one4, octets_append}

-- ---- the new jobs

abbrev of_y : Dhcid
of_y = record { octets = y_dhcid }

-- 10.0.0.n: of family 4 the first 4 octets
abbrev pub address_of : ℕ → Address
address_of n = record { octets = net10 n ++ replicate 12 0 }

abbrev address_x : Address
address_x = address_of 1

abbrev address_y : Address
address_y = address_of 2

abbrev pub kx : Job
kx = fresh_remove (name_in pipe) of_x 4 address_x

abbrev pub ky : Job
ky = fresh_add (name_in pipe) of_y 4 address_y 0

pub new_x_lem : NewCall x_removes kx
unfolding x_removes update_of family_of name_in pipe
new_x_lem = new_remove (name_in pipe) of_x 4 address_x (record { refusal = 0; job = kx }) (unfold new_job new_refusal listed is_full shape_of limited labels_of in refl) refl

pub new_y_lem : NewCall y_adds ky
unfolding y_adds update_of family_of policy_of name_in pipe
new_y_lem = new_add (name_in pipe) of_y 4 address_y 0 (record { refusal = 0; job = ky }) (unfold new_job new_refusal listed is_full shape_of limited labels_of in refl) refl

-- ---- what the steps return

-- A step of the rules: of a job that means m, from a zone that means x to one that means y, and to a stage. Nothing of it is refused.
pub record Turn (z w : Zone) (j : Job) (x y : rules.Zone) (m : jobs.Job) (s : Stage) : Type 0 where
  pub from : zone_of z ≡ x
  pub to : zone_of w ≡ y
  pub is : job_of j ≡ m
  pub rule : step m.arguments x m.stage ≡ state y s
  pub good : formed z ≡ true
  pub good_again : formed w ≡ true
  pub ok : Ok j
  pub same : y ≡ x → w ≡ z
  pub spells : Spells (name_of j.name) z w

module _ {z w : Zone} {j : Job} {x y : rules.Zone} {m : jobs.Job} {s : Stage} (t : Turn z w j x y m s) where
  goes : step_of z j ≡ state y s
  unfolding job_of
  goes = ap (λ (u : jobs.Job). step u.arguments (zone_of z) u.stage) t.is ∙ ap (λ (u : rules.Zone). step m.arguments u m.stage) t.from ∙ t.rule

  -- so it is what a call may return
  pub meets : StepPromise z j (record { refusal = 0; zone = w; job = at_stage j s })
  meets =
      let e : step_refusal z j ≡ 0 = unrefused z j t.good t.ok.0 t.ok.1 in
      record {
        refusal_is = sym e;
        zone_kept = λ n. absurd (n e);
        unchanged = λ q. t.same (sym (ap (λ (u : State). u.zone) goes) ∙ q ∙ t.from);
        job_kept = λ n. absurd (n e);
        zone_is = λ q. t.to ∙ ap (λ (u : State). u.zone) (sym goes);
        formed_again = λ q. t.good_again;
        spelled = λ q. spelled_by (name_of j.name) z w t.spells (step_of z j).zone (t.to ∙ ap (λ (u : State). u.zone) (sym goes));
        job_is = λ q. ap (λ (u : State). at_stage j u.stage) (sym goes);
      }

  -- and the job that comes of it
  pub next_is : job_of (at_stage j s) ≡ record { arguments = m.arguments; stage = s }
  unfolding job_of
  next_is = kept_promises.job_after z j (record { refusal = 0; zone = w; job = at_stage j s }) meets refl ∙ (λ i. record { arguments = (t.is i).arguments; stage = (goes i).stage })

  pub next_ok : Ok (at_stage j s)
  next_ok = taken.job_ok z j (record { refusal = 0; zone = w; job = at_stage j s }) meets refl

x_is : job_of kx ≡ record { arguments = x_removes; stage = before_first }
x_is = kept_promises.new x_removes kx new_x_lem ∙ (unfold fresh x_removes in refl)

pub y_is : job_of ky ≡ record { arguments = y_adds; stage = before_a 0 }
y_is = kept_promises.new y_adds ky new_y_lem ∙ (unfold fresh y_adds in refl)

address_goes : held_by_x nothing ≡ held_by_x one_address → bare ≡ full
unfolding held_by_x same_octets pipe x_host alone
address_goes e = let q : ◌≡◌ {A = ℕ} 0 1 = ap count e in absurd (omega arith)
  where
    count : rules.Zone → ℕ
    count z = elim (z.at pipe) [ none ↦ 2 | some h ↦ (h.addresses four).count ]

name_goes : no_names ≡ held_by_x nothing → clear ≡ bare
unfolding held_by_x
name_goes e = let q : ◌≡◌ {A = ℕ} 0 1 = ap (λ (z : rules.Zone). z.size) e in absurd (omega arith)

-- X's remove at its second request.
abbrev pub kx₂ : Job
kx₂ = at_stage kx before_second

pub x_first : Turn full bare kx (held_by_x one_address) (held_by_x nothing) (record { arguments = x_removes; stage = before_first }) before_second
x_first = record {
  from = full_zone;
  to = bare_zone;
  is = x_is;
  rule = x_takes;
  good = full_formed;
  good_again = bare_formed;
  ok = taken.new_ok x_removes kx new_x_lem;
  same = address_goes;
  spells = spells_same (name_of kx.name) full bare (held_spelled no4 (one4 (net10 1)));
}

-- Y's add, n requests sent, finds the name at its request A, and another owner at its request B.
module _ (j : Job) (n : ℕ) where
  abbrev adding : Stage → jobs.Job
  adding s = record { arguments = y_adds; stage = s }

  pub asks_bare : job_of j ≡ adding (before_a n) → Ok j → Turn bare bare j (held_by_x nothing) (held_by_x nothing) (adding (before_a n)) (before_b (suc n))
  asks_bare is ok = record {
    from = bare_zone;
    to = bare_zone;
    is = is;
    rule = y_asks n;
    good = bare_formed;
    good_again = bare_formed;
    ok = ok;
    same = λ e. refl;
    spells = spells_same (name_of j.name) bare bare refl;
  }

  pub conflicts_bare : job_of j ≡ adding (before_b n) → Ok j → Turn bare bare j (held_by_x nothing) (held_by_x nothing) (adding (before_b n)) (ended (conflict (suc n)))
  conflicts_bare is ok = record {
    from = bare_zone;
    to = bare_zone;
    is = is;
    rule = y_conflicts n;
    good = bare_formed;
    good_again = bare_formed;
    ok = ok;
    same = λ e. refl;
    spells = spells_same (name_of j.name) bare bare refl;
  }

pub y_first : Turn bare bare ky (held_by_x nothing) (held_by_x nothing) (record { arguments = y_adds; stage = before_a 0 }) (before_b 1)
y_first = asks_bare ky 0 y_is (taken.new_ok y_adds ky new_y_lem)

abbrev pub ky₂ : Job
ky₂ = at_stage ky (before_b 1)

pub y_second : Turn bare bare ky₂ (held_by_x nothing) (held_by_x nothing) (record { arguments = y_adds; stage = before_b 1 }) (ended (conflict 2))
y_second = conflicts_bare ky₂ 1 (next_is y_first) (next_ok y_first)

pub x_second : Turn bare clear kx₂ (held_by_x nothing) no_names (record { arguments = x_removes; stage = before_second }) (ended gone)
x_second = record {
  from = bare_zone;
  to = clear_zone;
  is = next_is x_first;
  rule = x_deletes;
  good = bare_formed;
  good_again = clear_formed;
  ok = next_ok x_first;
  same = name_goes;
  spells = λ k octets e. absurd (some≢none (sym e ∙ clear_spelled k));
}

-- ---- P12

-- What the calls can return, in the order of the steps.
pub p12_of_calls : P12 running
p12_of_calls = record {
  z = full;
  kx = kx;
  ky = ky;
  s₁ = record { refusal = 0; zone = bare; job = kx₂ };
  s₂ = record { refusal = 0; zone = bare; job = ky₂ };
  s₃ = record { refusal = 0; zone = bare; job = at_stage ky₂ (ended (conflict 2)) };
  s₄ = record { refusal = 0; zone = clear; job = at_stage kx₂ (ended gone) };
  formed = full_formed;
  held = full_zone;
  new_x = new_x_lem;
  new_y = new_y_lem;
  x_first = meets x_first;
  y_first = meets y_first;
  y_second = meets y_second;
  x_second = meets x_second;
}

-- A job for the name is a value whatever its stage and its count, as far as they are octets.
module _ (name : Octets) (p : Pipe name) (d : Dhcid) (a : Address) (dn : length d.octets ≡ 35) (an : length a.octets ≡ 16) (l : are_octets (d.octets ++ a.octets) ≡ true) where
  pub job_value : (stage count : ℕ) → are_octets (stage ∷ count ∷ []) ≡ true
      → JobValue (record { stage = stage; count = count; family = 4; policy = 0; name = name_in name; dhcid = d; address = a })
  job_value stage count h = record {
    name = p.size;
    dhcid = dn;
    address = an;
    octets = octets_append (stage ∷ count ∷ []) (4 ∷ 0 ∷ (name_in name).len ∷ ((name_in name).octets ++ (d.octets ++ a.octets))) h
        (octets_append (4 ∷ 0 ∷ (name_in name).len ∷ (name_in name).octets) (d.octets ++ a.octets) (unfold name_in are_octets in rw p.octets refl) l);
  }

pub x_values : JobValue kx × JobValue kx₂ × JobValue (at_stage kx₂ (ended gone))
unfolding fresh_remove at_stage stage_number stage_count x_dhcid are_octets
x_values = (job_value pipe small of_x address_x refl refl refl 11 0 refl, job_value pipe small of_x address_x refl refl refl 12 0 refl, job_value pipe small of_x address_x refl refl refl 14 0 refl)

pub y_values : JobValue ky × JobValue ky₂ × JobValue (at_stage ky₂ (ended (conflict 2)))
unfolding fresh_add at_stage stage_number stage_count y_dhcid are_octets
y_values = (job_value pipe small of_y address_y refl refl refl 1 0 refl, job_value pipe small of_y address_y refl refl refl 2 1 refl, job_value pipe small of_y address_y refl refl refl 4 2 refl)

pub p12_happens : P12Runs
unfolding p12_of_calls
p12_happens = record {
  steps = p12_of_calls;
  zones = (full_value, bare_value, bare_value, bare_value, clear_value);
  x_jobs = x_values;
  y_jobs = y_values;
  x_ends = ap (λ (u : jobs.Job). u.stage) (next_is x_second);
  y_ends = ap (λ (u : jobs.Job). u.stage) (next_is y_second);
  last_zone = clear_zone;
  explained = p12_runs p12_of_calls;
}
