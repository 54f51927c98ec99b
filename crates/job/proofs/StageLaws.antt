-- The numbers of stages and counts: what the tests in src/stage.rt come to. Assumes nothing.
use mathlib.Core.Path.{◌≡◌, refl, sym, ◌∙◌, ap, subst}
use mathlib.Core.Bool.{Bool, true, false, cond, ◌&&◌, ◌||◌, and-false, true≢false}
use mathlib.Core.Option.{Option, none, some}
use mathlib.Core.List.{List, [], ◌∷◌}
use Prim.Native.Nat.{ℕ}
use lib.Dec.{eqb}
use borrow.Author.Tests.{eqb-true}
use Rattle.update.specs.Meaning.{listed}
use Rattle.job.specs.declared.job.Job.{Job}
use Rattle.job.specs.declared.stage.Stage as code
use Rattle.job.specs.declared.stage.Stage.TheVariants.{BeforeA, BeforeB, Done, Conflict, NoRoom, GaveUp, BeforeFirst, BeforeSecond, NotOurs, Gone, Kept}
use Rattle.job.specs.Jobs.{Stage, among, possible}
use Rattle.job.specs.Inner.{staged, is_over, Stands}
use Rattle.job.specs.Meaning.{stage_number, stages, numbered, stage_at, allowed, can_have, is_add, numbers_listed, has_ended}
use Rattle.update.proofs.ZoneLaws.{some≢none}

-- a fact of the numbers of a list holds of each number among them
abbrev pub Each : (ℕ → Type 0) → List ℕ → Type 0
Each P [] = Unit
Each P (x ∷ l) = P x × Each P l

pub each_among : (P : ℕ → Type 0) (n : ℕ) (l : List ℕ) → Each P l → among n l ≡ true → P n
unfolding among
each_among P n [] h e = absurd (true≢false (sym e))
each_among P n (x ∷ l) h e = go (eqb n x) refl e (each_among P n l h.1)
  where
    go : (b : Bool) → eqb n x ≡ b → (b || among n l) ≡ true → (among n l ≡ true → P n) → P n
    go true p q f = subst P (sym (eqb-true n x p)) h.0
    go false p q f = f q

-- ---- the stage of a number

-- the stage that is found has the number, and whatever holds of all stages that were looked at
numbered_number : (n : ℕ) (l : List Stage) (s : Stage) → numbered n l ≡ some s → stage_number s ≡ n
unfolding numbered
numbered_number n [] s e = absurd (some≢none (sym e))
numbered_number n (t ∷ l) s e = go (eqb (stage_number t) n) refl e (numbered_number n l s)
  where
    go : (b : Bool) → eqb (stage_number t) n ≡ b → cond b (some t) (numbered n l) ≡ some s → (numbered n l ≡ some s → stage_number s ≡ n) → stage_number s ≡ n
    go true p q f = let r : t ≡ s = cc in ap stage_number (sym r) ∙ eqb-true (stage_number t) n p
    go false p q f = f q

abbrev EachStage : (Stage → Type 0) → List Stage → Type 0
EachStage P [] = Unit
EachStage P (s ∷ l) = P s × EachStage P l

pub each_numbered : (P : Stage → Type 0) (n : ℕ) (l : List Stage) (s : Stage) → EachStage P l → numbered n l ≡ some s → P s
unfolding numbered
each_numbered P n [] s h e = absurd (some≢none (sym e))
each_numbered P n (t ∷ l) s h e = go (eqb (stage_number t) n) e (each_numbered P n l s h.1)
  where
    go : (b : Bool) → cond b (some t) (numbered n l) ≡ some s → (numbered n l ≡ some s → P s) → P s
    go true q f = let r : t ≡ s = cc in subst P r h.0
    go false q f = f q

pub record Listed (number count : ℕ) : Type 0 where
  pub stage : Stage
  pub found : stage_at number count ≡ some stage
  pub can : possible stage ≡ true
  pub number_is : stage_number stage ≡ number

pub can_stage : (number count : ℕ) → can_have number count ≡ true → Listed number count
unfolding can_have
can_stage number count h = go (stage_at number count) refl h
  where
    go : (o : Option Stage) → stage_at number count ≡ o → allowed o ≡ true → Listed number count
    go none e q = absurd (true≢false (sym q))
    go (some s) e q = record { stage = s; found = e; can = q; number_is = numbered_number number (stages count) s (unfold stage_at in e) }

-- ---- the stages of the code

-- the number of a stage is listed, and whatever the count stands for it
pub at_staged : (s : code.Stage) (count : ℕ) → stage_at (stage_number (staged s 0)) count ≡ some (staged s count)
unfolding stage_at numbered stage_number
at_staged BeforeA count = refl
at_staged BeforeB count = refl
at_staged Done count = refl
at_staged Conflict count = refl
at_staged NoRoom count = refl
at_staged GaveUp count = refl
at_staged BeforeFirst count = refl
at_staged BeforeSecond count = refl
at_staged NotOurs count = refl
at_staged Gone count = refl
at_staged Kept count = refl

module _ (j : Job) (s : code.Stage) (n : stage_number (staged s 0) ≡ j.stage) where
  pub found : stage_at j.stage j.count ≡ some (staged s j.count)
  found = ap (λ (k : ℕ). stage_at k j.count) (sym n) ∙ at_staged s j.count

  -- whether it is an end does not depend on the count
  pub ended_staged : has_ended j ≡ cond (is_over (staged s 0)) 1 0
  unfolding has_ended
  ended_staged = rw (found, same s)
    where
      same : (s : code.Stage) → is_over (staged s j.count) ≡ is_over (staged s 0)
      same BeforeA = refl
      same BeforeB = refl
      same Done = refl
      same Conflict = refl
      same NoRoom = refl
      same GaveUp = refl
      same BeforeFirst = refl
      same BeforeSecond = refl
      same NotOurs = refl
      same Gone = refl
      same Kept = refl

  -- the numbers of a job, of which the policy that is read is p
  module _ (p : ℕ) (q : p ≡ cond (is_add (stage_number (staged s 0))) j.policy 0) where
    numbers : numbers_listed j ≡ (listed j.family p && possible (staged s j.count))
    unfolding numbers_listed can_have
    numbers =
        let r : cond (is_add j.stage) j.policy 0 ≡ p = ap (λ (k : ℕ). cond (is_add k) j.policy 0) (sym n) ∙ sym q in
        rw (r, found)

    pub stands : listed j.family p ≡ true → possible (staged s j.count) ≡ true → Stands j s
    stands l c = record { listed_is = numbers ∙ rw (l, c); at_is = found }

    pub unlisted_policy : listed j.family p ≡ false → numbers_listed j ≡ false
    unlisted_policy l = numbers ∙ rw l

    pub unlisted_count : possible (staged s j.count) ≡ false → numbers_listed j ≡ false
    unlisted_count c = numbers ∙ rw (c, and-false)

pub unlisted_stage : (j : Job) → stage_at j.stage j.count ≡ none → numbers_listed j ≡ false
unfolding numbers_listed can_have
unlisted_stage j h = rw (h, and-false)

pub unlisted_goes_on : (j : Job) → stage_at j.stage j.count ≡ none → has_ended j ≡ 0
unfolding has_ended
unlisted_goes_on j h = rw h
