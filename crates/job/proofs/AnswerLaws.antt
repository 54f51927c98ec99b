-- The answers that numbers stand for, and where they lead a remove. Assumes nothing.
use mathlib.Core.Path.{◌≡◌, refl}
use mathlib.Core.Bool.{Bool, true, false, cond}
use Prim.Native.Nat.{ℕ}
use lib.Dec.{eqb}
use borrow.Author.Tests.{ne_eqb}
use Rattle.update.specs.Rules.{Answer, success, NXDOMAIN, YXDOMAIN, YXRRSET, NXRRSET, no_room}
use Rattle.request.specs.Promise.{number_of}
use Rattle.request.proofs.AnswerLaws.{number_success, number_nxdomain, number_yxdomain, number_yxrrset, number_nxrrset, number_no_room}
use Rattle.job.specs.declared.job.Job.{Job}
use Rattle.job.specs.Jobs.{Stage, passed}
use Rattle.job.specs.Meaning.{at_stage}
use Rattle.job.specs.Inner.{answer_of, led}

-- An answer's number stands for that answer.
pub answer_number : (a : Answer) → answer_of (number_of a) ≡ a
unfolding answer_of
answer_number success = rw number_success
answer_number YXDOMAIN = rw number_yxdomain
answer_number NXDOMAIN = rw number_nxdomain
answer_number YXRRSET = rw number_yxrrset
answer_number NXRRSET = rw number_nxrrset
answer_number no_room = rw number_no_room

-- No number but 0 stands for success.
pub failed : (x : ℕ) → (x ≡ 0 → ⊥) → passed (answer_of x) ≡ false
unfolding answer_of
failed x n = rw (ne_eqb x 0 n) (others (eqb x 6) (eqb x 7) (eqb x 8) (eqb x 256))
  where
    others : (a b c d : Bool) → passed (cond a YXDOMAIN (cond b YXRRSET (cond c NXRRSET (cond d no_room NXDOMAIN)))) ≡ false
    others true b c d = refl
    others false true c d = refl
    others false false true d = refl
    others false false false true = refl
    others false false false false = refl

-- ---- where a remove goes on

module _ (j : Job) (s t : Stage) (x : ℕ) where
  pub led_passed : x ≡ 0 → at_stage j s ≡ led j (λ a. cond (passed a) s t) x
  unfolding answer_of
  led_passed e = rw e

  pub led_failed : (x ≡ 0 → ⊥) → at_stage j t ≡ led j (λ a. cond (passed a) s t) x
  led_failed n = rw (failed x n)
