-- One step, and a whole job, by what stands at the job's name: all that the proofs above this file know of a request. Assumes nothing.
use mathlib.Core.Path.{◌≡◌, refl, sym, ◌∙◌, ap, subst}
use mathlib.Core.Bool.{Bool, true, false, not, ◌&&◌, true≢false}
use mathlib.Core.Option.{none, some}
use Prim.Native.Nat.{ℕ, suc, ◌<◌}
use lib.Dec.{ltb}
use borrow.Author.Tests.{ltb-true, ltb-false, lt-ltb}
use borrow.Table.Steps.{cases}
use Rattle.octets.proofs.BoolLaws.{and_left, and_right}
use Rattle.update.specs.Rules.{Host, Zone, Form, Update, NXDOMAIN, at_name, held_by, empty, new_host, left, fits}
use Rattle.job.specs.Jobs.{add, remove, Arguments, End, done, conflict, no_room, not_ours, gone, kept, Stage, before_a, before_b, before_first, before_second, ended, first_stage, fresh, after, after_first, after_second, State, step, Sends, has_ended, sends}
use Rattle.serial.specs.Order.{is_left_out}
use Rattle.update.proofs.ZoneLaws.{put, address, option_case, put_at, A-new, A-full, A-there, B-absent, B-other, B-full, B-done, remove_address_absent, remove_address_other, remove_address_own, remove_name_absent, remove_name_other, remove_name_kept, remove_name_gone}
use Rattle.request.proofs.RequestLaws.{form_lasts, A-effect, B-effect, remove_address_effect, remove_name_effect}

abbrev pub state : Zone → Stage → State
state z s = record { zone = z; stage = s }

module _ (j : Arguments) (z : Zone) where
  abbrev u : Update
  u = j.update

  abbrev kept_left : Host → Host
  kept_left h = left u.family j.policy h

  pub step_a_new : (n : ℕ) → at_name u z ≡ none → ltb z.size 64 ≡ true
      → step j z (before_a n) ≡ state (put u.name (some (new_host u)) z) (ended (done (suc n)))
  unfolding step after
  step_a_new n e r = rw (A-new u z e (ltb-true z.size 64 r)) refl

  pub step_a_full : (n : ℕ) → at_name u z ≡ none → ltb z.size 64 ≡ false → step j z (before_a n) ≡ state z (ended (no_room (suc n)))
  unfolding step after
  step_a_full n e r = rw (A-full u z e (ltb-false z.size 64 r)) refl

  pub step_a_there : (n : ℕ) (h : Host) → at_name u z ≡ some h → step j z (before_a n) ≡ state z (before_b (suc n))
  unfolding step after
  step_a_there n h e = rw (A-there u z h e) refl

  pub step_b_absent : (n : ℕ) → at_name u z ≡ none → step j z (before_b n) ≡ state z (after (suc n) NXDOMAIN)
  unfolding step
  step_b_absent n e = rw (B-absent u z j.policy e) refl

  module _ (h : Host) (e : at_name u z ≡ some h) where
    pub step_b_other : (n : ℕ) → held_by u.dhcid h.owner ≡ false → step j z (before_b n) ≡ state z (ended (conflict (suc n)))
    unfolding step after
    step_b_other n o = rw (B-other u z h e j.policy o) refl

    pub step_b_full : (n : ℕ) → held_by u.dhcid h.owner ≡ true → fits u (kept_left h) ≡ false → step j z (before_b n) ≡ state z (ended (no_room (suc n)))
    unfolding step after
    step_b_full n o r = rw (B-full u z h e j.policy o r) refl

    pub step_b_done : (n : ℕ) → held_by u.dhcid h.owner ≡ true → fits u (kept_left h) ≡ true
        → step j z (before_b n) ≡ state (put u.name (some (address u true (kept_left h))) z) (ended (done (suc n)))
    unfolding step after
    step_b_done n o r = rw (B-done u z h e j.policy o r) refl

    pub step_1_other : held_by u.dhcid h.owner ≡ false → step j z before_first ≡ state z (ended not_ours)
    unfolding step after_first
    step_1_other o = rw (remove_address_other u z h e o) refl

    pub step_1_own : held_by u.dhcid h.owner ≡ true → step j z before_first ≡ state (put u.name (some (address u false h)) z) before_second
    unfolding step after_first
    step_1_own o = rw (remove_address_own u z h e o) refl

    pub step_2_kept : (held_by u.dhcid h.owner && empty h) ≡ false → step j z before_second ≡ state z (ended kept)
    unfolding step after_second
    step_2_kept o = cases (held_by u.dhcid h.owner)
        (λ d. rw (remove_name_kept u z h e d (sym (ap (λ (b : Bool). b && empty h) d) ∙ o)) refl)
        (λ d. rw (remove_name_other u z h e d) refl)

    pub step_2_gone : (held_by u.dhcid h.owner && empty h) ≡ true → step j z before_second ≡ state (put u.name none z) (ended gone)
    unfolding step after_second
    step_2_gone o = rw (remove_name_gone u z h e (and_left (held_by u.dhcid h.owner) (empty h) o) (and_right (held_by u.dhcid h.owner) (empty h) o)) refl

  pub step_1_absent : at_name u z ≡ none → step j z before_first ≡ state z (ended not_ours)
  unfolding step after_first
  step_1_absent e = rw (remove_address_absent u z e) refl

  pub step_2_absent : at_name u z ≡ none → step j z before_second ≡ state z (ended kept)
  unfolding step after_second
  step_2_absent e = rw (remove_name_absent u z e) refl

-- A step keeps the form.
pub form_step : (j : Arguments) (z : Zone) → Form z → (s : Stage) → Form (step j z s).zone
unfolding step
form_step j z g (before_a n) = form_lasts (A-effect j.update z) g
form_step j z g (before_b n) = form_lasts (B-effect j.update z j.policy) g
form_step j z g before_first = form_lasts (remove_address_effect j.update z) g
form_step j z g before_second = form_lasts (remove_name_effect j.update z) g
form_step j z g (ended e) = g

-- ---- a whole job: alone, two steps end it

unfoldable pub whole : Arguments → Zone → State
whole j z = step j (step j z (fresh j)).zone (step j z (fresh j)).stage

pub form_whole : (j : Arguments) (z : Zone) → Form z → Form (whole j z).zone
unfolding whole
form_whole j z g = form_step j (step j z (fresh j)).zone (form_step j z g (fresh j)) (step j z (fresh j)).stage

pub whole_sends : (j : Arguments) (z : Zone) (e : End) → (whole j z).stage ≡ ended e → Sends j z (fresh j) (whole j z).zone e
unfolding whole
whole_sends j z e p = sends (sends (subst (λ (s : Stage). Sends j (whole j z).zone s (whole j z).zone e) (sym p) has_ended))

-- it has no other end
sends_on : (j : Arguments) {z : Zone} (s : Stage) {y : Zone} {d : End} → Sends j z s y d → Sends j (step j z s).zone (step j z s).stage y d
unfolding step
sends_on j s has_ended = has_ended
sends_on j s (sends h) = h

sends_ended : (j : Arguments) {z : Zone} (s : Stage) {y : Zone} {d : End} (e : End) → Sends j z s y d → s ≡ ended e → (z ≡ y) × (e ≡ d)
sends_ended j s e (has_ended {e = d}) p = (refl, (let q : e ≡ d = cc in q))
sends_ended j s e (sends {z = z} h) p =
    let m = sends_ended j (step j z s).stage e h (ap (λ (t : Stage). (step j z t).stage) p ∙ (unfold step in refl)) in
    let u : z ≡ (step j z (ended e)).zone = unfold step in refl in
    (u ∙ ap (λ (t : Stage). (step j z t).zone) (sym p) ∙ m.0, m.1)

pub whole_only : (j : Arguments) (z y : Zone) (d e : End) → (whole j z).stage ≡ ended e → Sends j z (fresh j) y d → ((whole j z).zone ≡ y) × (e ≡ d)
unfolding whole
whole_only j z y d e p m = sends_ended j (whole j z).stage e (sends_on j (step j z (fresh j)).stage (sends_on j (fresh j) m)) p

step_ended_lem : (j : Arguments) (z : Zone) (e : End) → step j z (ended e) ≡ state z (ended e)
unfolding step
step_ended_lem j z e = refl

module _ (j : Arguments) (z : Zone) where
  pub whole_one : (s : Stage) (y : Zone) (e : End) → fresh j ≡ s → step j z s ≡ state y (ended e) → whole j z ≡ state y (ended e)
  unfolding whole
  whole_one s y e f h = rw (f, h) (step_ended_lem j y e)

  pub whole_two : (s : Stage) (x y : Zone) (t : Stage) (e : End) → fresh j ≡ s → step j z s ≡ state x t → step j x t ≡ state y (ended e) → whole j z ≡ state y (ended e)
  unfolding whole
  whole_two s x y t e f h g = rw (f, h) g

  abbrev starts_add : j.kind ≡ add → fresh j ≡ before_a 0
  starts_add k = unfold fresh in ap first_stage k

  abbrev starts_remove : j.kind ≡ remove → fresh j ≡ before_first
  starts_remove k = unfold fresh in ap first_stage k

  pub whole_new : j.kind ≡ add → at_name j.update z ≡ none → z.size < 64 → whole j z ≡ state (put j.update.name (some (new_host j.update)) z) (ended (done 1))
  whole_new k h r = whole_one (before_a 0) _ _ (starts_add k) (step_a_new j z 0 h (lt-ltb z.size 64 r))

  pub whole_absent : j.kind ≡ remove → at_name j.update z ≡ none → whole j z ≡ state z (ended not_ours)
  whole_absent k h = whole_one before_first _ _ (starts_remove k) (step_1_absent j z h)

  module _ (h : Host) (e : at_name j.update z ≡ some h) where
    pub whole_conflict : j.kind ≡ add → held_by j.update.dhcid h.owner ≡ false → whole j z ≡ state z (ended (conflict 2))
    whole_conflict k o = whole_two (before_a 0) _ _ _ _ (starts_add k) (step_a_there j z 0 h e) (step_b_other j z h e 1 o)

    pub whole_done : j.kind ≡ add → held_by j.update.dhcid h.owner ≡ true → fits j.update (left j.update.family j.policy h) ≡ true
        → whole j z ≡ state (put j.update.name (some (address j.update true (left j.update.family j.policy h))) z) (ended (done 2))
    whole_done k o r = whole_two (before_a 0) _ _ _ _ (starts_add k) (step_a_there j z 0 h e) (step_b_done j z h e 1 o r)

    pub whole_other : j.kind ≡ remove → held_by j.update.dhcid h.owner ≡ false → whole j z ≡ state z (ended not_ours)
    whole_other k o = whole_one before_first _ _ (starts_remove k) (step_1_other j z h e o)

    pub whole_kept : j.kind ≡ remove → held_by j.update.dhcid h.owner ≡ true
        → (held_by j.update.dhcid (address j.update false h).owner && empty (address j.update false h)) ≡ false
        → whole j z ≡ state (put j.update.name (some (address j.update false h)) z) (ended kept)
    whole_kept k o n =
        whole_two before_first _ _ _ _ (starts_remove k) (step_1_own j z h e o)
        (step_2_kept j (put j.update.name (some (address j.update false h)) z) (address j.update false h) (put_at j.update.name (some (address j.update false h)) z) n)

    pub whole_gone : j.kind ≡ remove → held_by j.update.dhcid h.owner ≡ true
        → (held_by j.update.dhcid (address j.update false h).owner && empty (address j.update false h)) ≡ true
        → whole j z ≡ state (put j.update.name none (put j.update.name (some (address j.update false h)) z)) (ended gone)
    whole_gone k o n =
        whole_two before_first _ _ _ _ (starts_remove k) (step_1_own j z h e o)
        (step_2_gone j (put j.update.name (some (address j.update false h)) z) (address j.update false h) (put_at j.update.name (some (address j.update false h)) z) n)

-- ---- a step after which the job does not stand in the order changed nothing

-- A job at this stage has its place in the order, or is put off until it takes one.
abbrev pub placed : Stage → Bool
placed (before_a n) = false
placed (before_b n) = false
placed before_first = false
placed before_second = true
placed (ended e) = not (is_left_out e)

module _ (j : Arguments) (z : Zone) where
  abbrev Quiet : Stage → State → Type 0
  Quiet s w = placed w.stage ≡ false → (w.zone ≡ z) × (placed s ≡ false)

  quiet_by : (s : Stage) {w : State} → step j z s ≡ w → Quiet s w → Quiet s (step j z s)
  quiet_by s e h = subst (Quiet s) (sym e) h

  pub quiet : (s : Stage) → Quiet s (step j z s)
  quiet (before_a n) =
      option_case (at_name j.update z)
      (λ e. cases (ltb z.size 64) (λ r. quiet_by (before_a n) (step_a_new j z n e r) (λ p. absurd (true≢false p))) (λ r. quiet_by (before_a n) (step_a_full j z n e r) (λ p. (refl, refl))))
      (λ h e. quiet_by (before_a n) (step_a_there j z n h e) (λ p. (refl, refl)))
  quiet (before_b n) =
      option_case (at_name j.update z) (λ e. quiet_by (before_b n) (step_b_absent j z n e) (λ p. (refl, refl)))
      (λ h e. cases (held_by j.update.dhcid h.owner)
      (λ o. cases (fits j.update (left j.update.family j.policy h)) (λ r. quiet_by (before_b n) (step_b_done j z h e n o r) (λ p. absurd (true≢false p)))
      (λ r. quiet_by (before_b n) (step_b_full j z h e n o r) (λ p. (refl, refl))))
      (λ o. quiet_by (before_b n) (step_b_other j z h e n o) (λ p. (refl, refl))))
  quiet before_first =
      option_case (at_name j.update z) (λ e. quiet_by before_first (step_1_absent j z e) (λ p. absurd (true≢false p)))
      (λ h e. cases (held_by j.update.dhcid h.owner) (λ o. quiet_by before_first (step_1_own j z h e o) (λ p. absurd (true≢false p)))
      (λ o. quiet_by before_first (step_1_other j z h e o) (λ p. absurd (true≢false p))))
  quiet before_second =
      option_case (at_name j.update z) (λ e. quiet_by before_second (step_2_absent j z e) (λ p. absurd (true≢false p)))
      (λ h e. cases (held_by j.update.dhcid h.owner && empty h) (λ o. quiet_by before_second (step_2_gone j z h e o) (λ p. absurd (true≢false p)))
      (λ o. quiet_by before_second (step_2_kept j z h e o) (λ p. absurd (true≢false p))))
  quiet (ended e) = quiet_by (ended e) (step_ended_lem j z e) (λ p. (refl, p))
