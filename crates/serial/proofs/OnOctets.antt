-- The calls on octets keep the promises: what each step leaves is what the step by value leaves of the zone that the octets hold, so that the
-- facts about the calls that run are cited. Assumes nothing.
use mathlib.Core.Path.{◌≡◌, sym, ◌∙◌, subst}
use mathlib.Core.List.{List}
use Prim.Native.Nat.{ℕ}
use native.Mathlib.Decide.{ℕ_discrete}
use native.Mathlib.Omega.{arith}
use lib.ListN.{length}
use Rattle.zone.specs.declared.Zone.{Zone}
use Rattle.lentzone.specs.Decode.{zone_in}
use Rattle.job.specs.declared.job.Job.{Job}
use Rattle.step.specs.declared.Stepped.{Stepped}
use Rattle.step.specs.Promise.{StepPromise}
use Rattle.serial.specs.Steps.{Promises}
use Rattle.serial.specs.Demand.{RefusedKeeps, Delivered}
use Rattle.serial.specs.OnOctets.{Left, StepOn, lent, by_value, on_octets}
use Rattle.serial.proofs.InTime.{Taken, deliver}
use Rattle.serial.proofs.Running.{Ok, kept_promises, taken, refused_keeps}
use Rattle.lentzone.proofs.EncodeLaws.{same_octets_lem}

-- What a step by value returned that leaves the same. Each step is one of the zone that the octets hold.
abbrev pub returned : Left → Stepped
returned l = record { refusal = l.refusal; zone = zone_in l.octets; job = l.job }

step_in : (z : List ℕ) (k : Job) (l : Left) → StepOn z k l → length z ≡ 23936 → StepPromise (zone_in z) k (returned l)
step_in z k l (lent after r p) n = p.held n
step_in z k l (by_value x r after h p g) n =
    subst (λ (u : Zone). StepPromise u k (returned l)) (sym h.zone_is)
    (subst (λ (u : Zone). StepPromise x k (record { refusal = r.refusal; zone = u; job = r.job })) (sym g.zone_is) p)

-- octets of another number are refused
size_in : (z : List ℕ) (k : Job) (l : Left) → StepOn z k l → l.refusal ≡ 0 → length z ≡ 23936
size_in z k l (lent after r p) e = go (ℕ_discrete (length z) 23936)
  where
    go : Dec (length z ≡ 23936) → length z ≡ 23936
    go (yes n) = n
    go (no m) = let q : r.refusal ≡ 17 = (p.refused m).0 in absurd (omega arith)
size_in z k l (by_value x r after h p g) e = h.size

size_after : (z : List ℕ) (k : Job) (l : Left) → StepOn z k l → length z ≡ 23936 → length l.octets ≡ 23936
size_after z k l (lent after r p) n = p.size ∙ n
size_after z k l (by_value x r after h p g) n = g.size

pub unrefused_in : (z : List ℕ) (k : Job) (l : Left) → StepOn z k l → l.refusal ≡ 0 → StepPromise (zone_in z) k (returned l)
unrefused_in z k l p e = step_in z k l p (size_in z k l p e)

pub octets_promises : Promises on_octets
octets_promises = record {
  formed = λ z f. kept_promises.formed (zone_in z) f.1;
  new = kept_promises.new;
  zone_after = λ z k l p e. kept_promises.zone_after (zone_in z) k (returned l) (unrefused_in z k l p e) e;
  job_after = λ z k l p e. kept_promises.job_after (zone_in z) k (returned l) (unrefused_in z k l p e) e;
}

pub octets_taken : Taken on_octets on_octets.Formed Ok
octets_taken = record {
  formed_ok = λ z f. f;
  new_ok = taken.new_ok;
  unrefused = λ z k l f o p. taken.unrefused (zone_in z) k (returned l) f.1 o (step_in z k l p f.0);
  zone_ok = λ z k l p e. (size_after z k l p (size_in z k l p e), taken.zone_ok (zone_in z) k (returned l) (unrefused_in z k l p e) e);
  job_ok = λ z k l p e. taken.job_ok (zone_in z) k (returned l) (unrefused_in z k l p e) e;
}

pub delivered_octets : Delivered on_octets
delivered_octets = deliver on_octets octets_promises on_octets.Formed Ok octets_taken

pub refused_keeps_octets : RefusedKeeps on_octets
refused_keeps_octets z k l (lent after r p) n = (p.same n, job (ℕ_discrete (length z) 23936))
  where
    job : Dec (length z ≡ 23936) → r.job ≡ k
    job (yes e) = (refused_keeps (zone_in z) k (returned l) (p.held e) n).1
    job (no m) = (p.refused m).1
refused_keeps_octets z k l (by_value x r after h p g) n =
    let q = refused_keeps (zone_in z) k (returned l) (step_in z k l (by_value x r after h p g) h.size) n in
    (same_octets_lem after z g.size h.size q.0, q.1)
