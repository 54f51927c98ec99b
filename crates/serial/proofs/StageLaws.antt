-- The counts of fresh jobs: a fresh job's stage can have its count, and a step leads from such a stage to such a stage. Assumes nothing.
use mathlib.Core.Path.{◌≡◌, refl, sym, subst}
use mathlib.Core.Bool.{true, ◌&&◌}
use mathlib.Core.List.{[], ◌∷◌}
use Prim.Native.Nat.{suc}
use lib.Dec.{ltb}
use borrow.Table.Steps.{cases}
use Rattle.update.specs.Rules.{Zone, NXDOMAIN, at_name, held_by, empty, left, fits}
use Rattle.job.specs.Jobs.{Kind, add, remove, Arguments, done, conflict, no_room, Stage, before_a, before_b, before_first, before_second, ended, among, possible, first_stage, fresh, after, State, step}
use Rattle.update.proofs.ZoneLaws.{option_case}
use Rattle.job.proofs.StageLaws.{each_among}
use Rattle.serial.proofs.RequestLaws.{step_a_new, step_a_full, step_a_there, step_b_absent, step_b_other, step_b_full, step_b_done, step_1_other, step_1_own, step_2_kept, step_2_gone, step_1_absent, step_2_absent}

pub possible_fresh : (j : Arguments) → possible (fresh j) ≡ true
unfolding fresh
possible_fresh j = go j.kind
  where
    go : (k : Kind) → possible (first_stage k) ≡ true
    go add = unfold possible among in refl
    go remove = unfold possible in refl

module _ (j : Arguments) (z : Zone) where
  abbrev Can : State → Type 0
  Can w = possible w.stage ≡ true

  via : {v w : State} → v ≡ w → Can w → Can v
  via e h = subst Can (sym e) h

  pub possible_step : (s : Stage) → possible s ≡ true → possible (step j z s).stage ≡ true
  unfolding possible among after
  possible_step (before_a n) h =
      option_case (at_name j.update z)
      (λ e. cases (ltb z.size 64)
      (λ r. via (step_a_new j z n e r) (each_among (λ m. possible (ended (done (suc m))) ≡ true) n (0 ∷ 2 ∷ 4 ∷ []) (refl, (refl, (refl, tt))) h))
      (λ r. via (step_a_full j z n e r) (each_among (λ m. possible (ended (no_room (suc m))) ≡ true) n (0 ∷ 2 ∷ 4 ∷ []) (refl, (refl, (refl, tt))) h)))
      (λ x e. via (step_a_there j z n x e) (each_among (λ m. possible (before_b (suc m)) ≡ true) n (0 ∷ 2 ∷ 4 ∷ []) (refl, (refl, (refl, tt))) h))
  possible_step (before_b n) h =
      option_case (at_name j.update z)
      (λ e. via (step_b_absent j z n e) (each_among (λ m. possible (after (suc m) NXDOMAIN) ≡ true) n (1 ∷ 3 ∷ 5 ∷ []) (refl, (refl, (refl, tt))) h))
      (λ x e. cases (held_by j.update.dhcid x.owner)
      (λ o. cases (fits j.update (left j.update.family j.policy x))
      (λ r. via (step_b_done j z x e n o r) (each_among (λ m. possible (ended (done (suc m))) ≡ true) n (1 ∷ 3 ∷ 5 ∷ []) (refl, (refl, (refl, tt))) h))
      (λ r. via (step_b_full j z x e n o r) (each_among (λ m. possible (ended (no_room (suc m))) ≡ true) n (1 ∷ 3 ∷ 5 ∷ []) (refl, (refl, (refl, tt))) h)))
      (λ o. via (step_b_other j z x e n o) (each_among (λ m. possible (ended (conflict (suc m))) ≡ true) n (1 ∷ 3 ∷ 5 ∷ []) (refl, (refl, (refl, tt))) h)))
  possible_step before_first h =
      option_case (at_name j.update z) (λ e. via (step_1_absent j z e) refl)
      (λ x e. cases (held_by j.update.dhcid x.owner) (λ o. via (step_1_own j z x e o) refl) (λ o. via (step_1_other j z x e o) refl))
  possible_step before_second h =
      option_case (at_name j.update z) (λ e. via (step_2_absent j z e) refl)
      (λ x e. cases (held_by j.update.dhcid x.owner && empty x) (λ o. via (step_2_gone j z x e o) refl) (λ o. via (step_2_kept j z x e o) refl))
  possible_step (ended e) h = unfold step in h
