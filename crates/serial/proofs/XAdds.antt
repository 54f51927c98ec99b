-- X's add of 10.0.0.n to pipe, in whatever letters, where the name is absent: by the rules, of the calls that run, and in values that a program can hold. Assumes nothing.
use mathlib.Core.Path.{◌≡◌, refl, sym, ◌∙◌, ap, subst}
use mathlib.Core.Bool.{Bool, true, false, cond}
use mathlib.Core.List.{◌++◌}
use mathlib.Core.Option.{none, some}
use Prim.Native.Nat.{ℕ}
use native.Mathlib.Omega.{arith}
use lib.Dec.{ltb}
use lib.ListN.{length}
use Rattle.octets.specs.Compare.{same_octets}
use Rattle.octets.specs.Count.{Octets}
use Rattle.dname.specs.Name.{name_of}
use Rattle.update.specs.Rules as rules
use Rattle.update.specs.Rules.{Host, with_name, new_host, request_a}
use Rattle.update.specs.Meaning.{listed, family_of, policy_of, update_of}
use Rattle.update.specs.Spelling.{kept}
use Rattle.job.specs.declared.job.Job.{Job}
use Rattle.job.specs.Jobs.{before_a, ended, done, fresh, after, step}
use Rattle.job.specs.Meaning.{job_of, at_stage, stage_number, stage_count, fresh_add}
use Rattle.job.specs.Promise.{new_refusal, new_job}
use Rattle.request.specs.Inner.{Spells}
use Rattle.update.proofs.ZoneLaws.{some≢none}
use Rattle.serial.specs.Values.{are_octets, JobValue}
use Rattle.serial.specs.P12.{pipe, x_dhcid, net10, x_update, alone, held_by_x, no_names, x_adds}
use Rattle.serial.specs.Running.{NewCall, new_add}
use Rattle.serial.proofs.Running.{kept_promises, taken}
use Rattle.serial.proofs.OneName.{one4}
use Rattle.serial.proofs.P12Zones.{name_in, Pipe, of_x, full_of, clear, full_of_formed, clear_formed, full_of_zone, clear_zone, one_spelled, clear_spelled}
use Rattle.serial.proofs.RequestLaws.{state}
use Rattle.serial.proofs.P12Steps.{host_new, held_new}
use Rattle.serial.proofs.P12Runs.{Turn, address_of, job_value}

module _ (name : Octets) (p : Pipe name) (n : ℕ) where
  -- X's request A adds the name with its one address.
  pub x_adds_lem : step (x_adds name n) no_names (before_a 0) ≡ state (held_by_x (alone (net10 n))) (ended (done 1))
  x_adds_lem =
      found ∙ ap (λ (h : Host). state (with_name name h no_names) (ended (done 1))) (host_new name (net10 n))
      ∙ ap (λ (z : rules.Zone). state z (ended (done 1))) (held_new name p.key (alone (net10 n)))
    where
      found : step (x_adds name n) no_names (before_a 0) ≡ state (with_name name (new_host (x_update name (net10 n))) no_names) (ended (done 1))
      found = unfold x_adds step request_a after in refl

  -- ---- of the calls that run

  -- X's add.
  abbrev pub kx⁺ : Job
  kx⁺ = fresh_add (name_in name) of_x 4 (address_of n) 0

  pub new_x⁺ : NewCall (x_adds name n) kx⁺
  new_x⁺ = subst (λ (u : Octets). NewCall (x_adds u n) kx⁺) p.is call
    where
      taken_on : new_refusal (name_of (name_in name)) 4 0 ≡ 0
      taken_on = unfold new_refusal listed in rw (p.is, p.full) refl

      call : NewCall (x_adds (name_of (name_in name)) n) kx⁺
      call = unfold x_adds update_of family_of policy_of in new_add (name_in name) of_x 4 (address_of n) 0 (record { refusal = 0; job = kx⁺ }) (unfold new_job in rw taken_on refl) refl

  x⁺-is : job_of kx⁺ ≡ record { arguments = x_adds name n; stage = before_a 0 }
  x⁺-is = kept_promises.new (x_adds name n) kx⁺ new_x⁺ ∙ (unfold fresh x_adds in refl)

  -- the zone with the name is another than the one without
  name_comes : held_by_x (alone (net10 n)) ≡ no_names → full_of name n ≡ clear
  unfolding held_by_x
  name_comes e = let q : ◌≡◌ {A = ℕ} 1 0 = ap (λ (z : rules.Zone). z.size) e in absurd (omega arith)

  -- and spells it as the request did
  name_spelled : Spells (name_of kx⁺.name) clear (full_of name n)
  unfolding fresh_add
  name_spelled k octets e = go (same_octets pipe k) (sym (one_spelled name p (one4 (net10 n)) k) ∙ e) ∙ sym (ap (kept (name_of (name_in name))) (clear_spelled k))
    where
      go : (b : Bool) → cond b (some name) none ≡ some octets → octets ≡ name_of (name_in name)
      go true q = let r : name ≡ octets = cc in sym r ∙ sym p.is
      go false q = absurd (some≢none (sym q))

  pub x_adds_anew : Turn clear (full_of name n) kx⁺ no_names (held_by_x (alone (net10 n))) (record { arguments = x_adds name n; stage = before_a 0 }) (ended (done 1))
  x_adds_anew = record {
    from = clear_zone;
    to = full_of_zone name p n;
    is = x⁺-is;
    rule = x_adds_lem;
    good = clear_formed;
    good_again = full_of_formed name p n;
    ok = taken.new_ok (x_adds name n) kx⁺ new_x⁺;
    same = name_comes;
    spells = name_spelled;
  }

  -- ---- values that a program can hold

  pub x⁺-values : ltb n 256 ≡ true → JobValue kx⁺ × JobValue (at_stage kx⁺ (ended (done 1)))
  unfolding fresh_add at_stage stage_number stage_count
  x⁺-values h = (job_value name p of_x (address_of n) size refl octets 1 0 (unfold are_octets in refl), job_value name p of_x (address_of n) size refl octets 3 1 (unfold are_octets in refl))
    where
      size : length x_dhcid ≡ 35
      size = unfold x_dhcid in refl

      octets : are_octets (x_dhcid ++ (address_of n).octets) ≡ true
      octets = unfold x_dhcid are_octets in rw h refl
