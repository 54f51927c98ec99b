-- What a step does to whether a name stands. Assumes nothing.
use mathlib.Core.Path.{◌≡◌, refl, sym, ◌∙◌, ap, subst}
use mathlib.Core.Bool.{Bool, true, false, cond, not, ◌&&◌}
use mathlib.Core.Option.{none, some}
use lib.Dec.{ltb}
use borrow.Table.Steps.{cases}
use Rattle.octets.specs.Compare.{same_octets}
use Rattle.octets.specs.Count.{Octets}
use Rattle.dname.specs.Name.{key}
use Rattle.update.specs.Rules.{Host, Zone, there, at_key, at_name, held_by, empty, new_host, left, fits}
use Rattle.job.specs.Jobs.{Arguments, gone, Stage, before_a, before_b, before_first, before_second, ended, State, step}
use Rattle.octets.proofs.CompareLaws.{same_true}
use Rattle.update.proofs.ZoneLaws.{address, option_case, put, put_has}
use Rattle.serial.proofs.RequestLaws.{state, step_a_new, step_a_full, step_a_there, step_b_absent, step_b_other, step_b_full, step_b_done, step_1_other, step_1_own, step_2_kept, step_2_gone, step_1_absent, step_2_absent}
use Rattle.asking.specs.Asking.{is_second, ended_gone, deletes}

-- ---- what stands at a name that is written to, or not

not_both : (b : Bool) → false ≡ (b && not b)
not_both true = refl
not_both false = refl

never_both : (b : Bool) → false ≡ (b && false)
never_both true = refl
never_both false = refl

-- ---- which requests delete a name

module _ (j : Arguments) (n : Octets) where
  pub no_deletion : (s t : Stage) → (is_second s && ended_gone t) ≡ false → deletes n (record { arguments = j; stage = s }) t ≡ false
  unfolding deletes
  no_deletion s t e = rw e refl

  pub deletion : deletes n (record { arguments = j; stage = before_second }) (ended gone) ≡ same_octets (key j.update.name) (key n)
  unfolding deletes
  deletion = refl

-- ---- each step

module _ (j : Arguments) (z : Zone) (n : Octets) where
  -- the step's name is the name
  abbrev about : Bool
  about = same_octets (key j.update.name) (key n)

  -- A step to this state deleted the name exactly if the name stood before it and does not stand after it.
  abbrev pub Told : Stage → State → Type 0
  Told s w = deletes n (record { arguments = j; stage = s }) w.stage ≡ (there (at_key n z) && not (there (at_key n w.zone)))

  by : (s : Stage) {w : State} → step j z s ≡ w → Told s w → Told s (step j z s)
  by s e h = subst (Told s) (sym e) h

  -- nothing is written
  idle : (s : Stage) {t : Stage} → step j z s ≡ state z t → (is_second s && ended_gone t) ≡ false → Told s (step j z s)
  idle s {t} e g = by s e (no_deletion j n s t g ∙ not_both (there (at_key n z)))

  -- a host is written at the step's name, which so stands
  wrote : (s : Stage) {t : Stage} (h : Host) → step j z s ≡ state (put j.update.name (some h) z) t → (is_second s && ended_gone t) ≡ false → Told s (step j z s)
  wrote s {t} h e g = by s e (no_deletion j n s t g ∙ rw (put_has j.update.name (some h) z (key n)) (go about))
    where
      go : (b : Bool) → false ≡ (there (at_key n z) && not (there (cond b (some h) (at_key n z))))
      go true = never_both (there (at_key n z))
      go false = not_both (there (at_key n z))

  -- the step's name, which stood, is deleted
  deleted : (h : Host) → at_name j.update z ≡ some h → Told before_second (state (put j.update.name none z) (ended gone))
  deleted h e = deletion j n ∙ rw (put_has j.update.name none z (key n)) (cases about here elsewhere)
    where
      here : about ≡ true → about ≡ (there (at_key n z) && not (there (cond about none (at_key n z))))
      here c = rw (c, ap there (ap z.at (sym (same_true (key j.update.name) (key n) c)) ∙ e)) refl

      elsewhere : about ≡ false → about ≡ (there (at_key n z) && not (there (cond about none (at_key n z))))
      elsewhere c = rw c (not_both (there (at_key n z)))

  -- Every step: it deletes a name exactly if the name stood before it and does not stand after it.
  pub told : (s : Stage) → Told s (step j z s)
  told (before_a m) =
      option_case (at_name j.update z)
      (λ e. cases (ltb z.size 64) (λ r. wrote (before_a m) (new_host j.update) (step_a_new j z m e r) refl) (λ r. idle (before_a m) (step_a_full j z m e r) refl))
      (λ h e. idle (before_a m) (step_a_there j z m h e) refl)
  told (before_b m) =
      option_case (at_name j.update z) (λ e. idle (before_b m) (step_b_absent j z m e) refl)
      (λ h e. cases (held_by j.update.dhcid h.owner)
      (λ o. cases (fits j.update (left j.update.family j.policy h)) (λ r. wrote (before_b m) (address j.update true (left j.update.family j.policy h)) (step_b_done j z h e m o r) refl)
      (λ r. idle (before_b m) (step_b_full j z h e m o r) refl))
      (λ o. idle (before_b m) (step_b_other j z h e m o) refl))
  told before_first =
      option_case (at_name j.update z) (λ e. idle before_first (step_1_absent j z e) refl)
      (λ h e. cases (held_by j.update.dhcid h.owner) (λ o. wrote before_first (address j.update false h) (step_1_own j z h e o) refl) (λ o. idle before_first (step_1_other j z h e o) refl))
  told before_second =
      option_case (at_name j.update z) (λ e. idle before_second (step_2_absent j z e) refl)
      (λ h e. cases (held_by j.update.dhcid h.owner && empty h) (λ o. by before_second (step_2_gone j z h e o) (deleted h e))
      (λ o. idle before_second (step_2_kept j z h e o) refl))
  told (ended e) = idle (ended e) {t = ended e} (unfold step in refl) refl
