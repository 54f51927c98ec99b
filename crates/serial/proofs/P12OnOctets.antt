-- P12 on a zone that is kept as octets, all of them written out: X's steps on lent octets, Y's by value. Assumes nothing.
use mathlib.Core.Path.{◌≡◌, refl, sym, ◌∙◌, ap, subst}
use lib.ListN.{drop}
use lib.Seq.{drop_at}
use Rattle.zone.specs.declared.entry.Entry.{Entry}
use Rattle.zone.specs.declared.Zone.{Zone}
use Rattle.zone.specs.Meaning.{formed}
use Rattle.update.specs.Meaning.{zone_of}
use Rattle.lentzone.specs.Decode.{zone_in}
use Rattle.lentzone.specs.Encode.{SizedEntry, Holds, entry_octets, entries_octets, octets_of}
use Rattle.lentzone.proofs.EncodeLaws.{entry_length, every_zone_is_held}
use Rattle.job.specs.declared.job.Job.{Job}
use Rattle.job.specs.Jobs as jobs
use Rattle.job.specs.Jobs.{ended, conflict, gone}
use Rattle.job.specs.Meaning.{at_stage}
use Rattle.step.specs.Promise.{step_of, StepPromise}
use Rattle.step.specs.Lent.{StepPromiseIn}
use Rattle.serial.specs.OnOctets.{on_octets}
use Rattle.serial.specs.Values.{ZoneValue, LentValue}
use Rattle.serial.specs.P12.{P12, P12OnOctets}
use Rattle.serial.proofs.RunningCases.{p12_octets, p12_mixed}
use Rattle.serial.proofs.OneName.{others, one_name}
use Rattle.serial.proofs.P12Zones.{full, bare, clear, full_value, bare_value, clear_value, full_formed, full_zone, clear_zone}
use Rattle.serial.proofs.P12Runs.{kx, ky, kx₂, ky₂, new_x_lem, new_y_lem, meets, next_is, x_first, y_first, y_second, x_second, x_values, y_values}

-- ---- the octets of a zone that a program can hold

module _ (z : Zone) (v : ZoneValue z) where
  holds : Holds (octets_of z) z
  holds = every_zone_is_held z v.sizes

  value_in : LentValue (octets_of z)
  value_in = record { size = holds.size; octets = v.octets }

-- ---- a step from one place to another

module _ (e d : Entry) (v : ZoneValue (one_name e)) (w : ZoneValue (one_name d)) where
  rest : (c : Entry) → SizedEntry c → drop 374 (octets_of (one_name c)) ≡ entries_octets others
  unfolding entries_octets
  rest c s = drop_at (entry_octets c) (entries_octets others) 374 (entry_length c s)

  -- What the step by value may return, the step on lent octets may leave.
  lent_meets : (j k : Job) → StepPromise (one_name e) j (record { refusal = 0; zone = one_name d; job = k })
      → StepPromiseIn (octets_of (one_name e)) j (octets_of (one_name d)) (record { refusal = 0; job = k })
  lent_meets j k p = record {
    size = y.size ∙ sym x.size;
    same = λ n. absurd (n refl);
    unchanged = λ q. ap octets_of (p.unchanged (subst (λ (u : Zone). (step_of u j).zone ≡ zone_of u) x.zone_is q));
    elsewhere = record { place = 0; before = refl; behind = rest d w.sizes.0 ∙ sym (rest e v.sizes.0) };
    held = λ n. subst (λ (u : Zone). StepPromise u j (record { refusal = 0; zone = zone_in (octets_of (one_name d)); job = k })) (sym x.zone_is)
        (subst (λ (u : Zone). StepPromise (one_name e) j (record { refusal = 0; zone = u; job = k })) (sym y.zone_is) p);
    refused = λ n. absurd (n x.size);
  }
    where
      x : Holds (octets_of (one_name e)) (one_name e)
      x = holds (one_name e) v

      y : Holds (octets_of (one_name d)) (one_name d)
      y = holds (one_name d) w

-- ---- P12

pub p12_of_octets : P12 on_octets
p12_of_octets =
    p12_mixed (octets_of full) (octets_of bare) (octets_of bare) (octets_of bare) (octets_of clear) kx ky
    (record { refusal = 0; job = kx₂ }) (record { refusal = 0; job = at_stage kx₂ (ended gone) })
    (record { refusal = 0; zone = bare; job = ky₂ }) (record { refusal = 0; zone = bare; job = at_stage ky₂ (ended (conflict 2)) })
    (holds full full_value).size (ap formed (holds full full_value).zone_is ∙ full_formed) (ap zone_of (holds full full_value).zone_is ∙ full_zone)
    new_x_lem new_y_lem
    (lent_meets _ _ full_value bare_value kx kx₂ (meets x_first))
    (subst (λ (u : Zone). StepPromise u ky (record { refusal = 0; zone = bare; job = ky₂ })) (sym (holds bare bare_value).zone_is) (meets y_first))
    (holds bare bare_value)
    (meets y_second)
    (holds bare bare_value)
    (lent_meets _ _ bare_value clear_value kx₂ (at_stage kx₂ (ended gone)) (meets x_second))

pub p12_happens_on_octets : P12OnOctets
unfolding p12_of_octets p12_mixed
p12_happens_on_octets = record {
  steps = p12_of_octets;
  zones = (value_in full full_value, value_in bare bare_value, value_in bare bare_value, value_in bare bare_value, value_in clear clear_value);
  x_jobs = x_values;
  y_jobs = y_values;
  x_ends = ap (λ (u : jobs.Job). u.stage) (next_is x_second);
  y_ends = ap (λ (u : jobs.Job). u.stage) (next_is y_second);
  last_zone = ap zone_of (holds clear clear_value).zone_is ∙ clear_zone;
  explained = p12_octets p12_of_octets;
}
