-- The steps of the lists that reach the bounds, beside those of P12 and X's add of its address again: Y's request B finds no name. Assumes nothing.
use mathlib.Core.Path.{◌≡◌, refl, ◌∙◌, ap}
use mathlib.Core.Bool.{true, ◌&&◌}
use mathlib.Core.List.{List, [], ◌∷◌, ◌++◌}
use Prim.Native.Nat.{ℕ, suc}
use lib.Dec.{ltb}
use Rattle.octets.proofs.BoolLaws.{and_right}
use Rattle.dname.specs.Name.{name_of}
use Rattle.update.specs.Rules.{NXDOMAIN, request_b}
use Rattle.job.specs.declared.job.Job.{Job}
use Rattle.job.specs.Jobs.{Stage, before_b, after, step}
use Rattle.job.specs.Meaning.{job_of, at_stage, stage_number, stage_count}
use Rattle.request.proofs.SpellingLaws.{spells_same}
use Rattle.serial.specs.Values.{are_octets, JobValue}
use Rattle.serial.specs.P12.{y_adds, no_names}
use Rattle.serial.proofs.Running.{Ok}
use Rattle.serial.proofs.OneName.{octets_append}
use Rattle.serial.proofs.P12Zones.{clear, clear_formed, clear_zone}
use Rattle.serial.proofs.RequestLaws.{state}
use Rattle.serial.proofs.P12Runs.{Turn}

-- Y's request B finds no name.
pub y_absent : (n : ℕ) → step y_adds no_names (before_b n) ≡ state no_names (after (suc n) NXDOMAIN)
unfolding step request_b
y_absent n = refl

-- ---- of the calls that run

-- Y's request B finds no name, and leads to a stage.
pub asks_clear : (j : Job) (n : ℕ) (s : Stage) → after (suc n) NXDOMAIN ≡ s → job_of j ≡ record { arguments = y_adds; stage = before_b n } → Ok j
    → Turn clear clear j no_names no_names (record { arguments = y_adds; stage = before_b n }) s
asks_clear j n s e is ok = record {
  from = clear_zone;
  to = clear_zone;
  is = is;
  rule = y_absent n ∙ ap (state no_names) e;
  good = clear_formed;
  good_again = clear_formed;
  ok = ok;
  same = λ e. refl;
  spells = spells_same (name_of j.name) clear clear refl;
}

-- ---- values that a program can hold

-- A job is one at another stage too, where the numbers of that are octets.
abbrev behind : Job → List ℕ
behind j = j.family ∷ j.policy ∷ j.name.len ∷ (j.name.octets ++ (j.dhcid.octets ++ j.address.octets))

pub value_at : (j : Job) (s : Stage) → JobValue j → are_octets (stage_number s ∷ stage_count s j.count ∷ []) ≡ true → JobValue (at_stage j s)
unfolding at_stage are_octets
value_at j s v h = record {
  name = v.name;
  dhcid = v.dhcid;
  address = v.address;
  octets = octets_append (stage_number s ∷ stage_count s j.count ∷ []) (behind j) h
      (and_right (ltb j.count 256) (are_octets (behind j)) (and_right (ltb j.stage 256) (ltb j.count 256 && are_octets (behind j)) v.octets));
}
