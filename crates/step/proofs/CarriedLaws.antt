-- A step by what its request came to, for any outcome and any way on from its answer. Assumes nothing.
use mathlib.Core.Path.{◌≡◌, refl, sym, ◌∙◌, ap, subst}
use mathlib.Core.Bool.{Bool, true, cond}
use mathlib.Core.List.{List}
use Prim.Native.Nat.{ℕ}
use native.Mathlib.Omega.{arith}
use lib.Dec.{eqb}
use borrow.Author.Tests.{eq-eqb, ne_eqb}
use Rattle.dname.specs.Name.{name_of}
use Rattle.zone.specs.declared.Zone.{Zone}
use Rattle.zone.specs.Meaning.{formed}
use Rattle.update.specs.Rules as rules
use Rattle.update.specs.Rules.{Answer, Outcome}
use Rattle.update.specs.Meaning.{listed, zone_of}
use Rattle.update.specs.Spelling.{spelling_of, respelled}
use Rattle.lentzone.specs.Decode.{zone_in}
use Rattle.lentzone.proofs.DecodeLaws.{one_place_same}
use Rattle.request.specs.declared.Answered.{Answered}
use Rattle.request.specs.declared.lent.RequestAnswer.{RequestAnswer}
use Rattle.request.specs.Promise.{refusal_of, number_of, Promised}
use Rattle.request.specs.Lent.{refusal_in, answered, PromisedIn}
use Rattle.request.proofs.PromiseLaws.{refusal_listed}
use Rattle.request.proofs.LentLaws.{refusal_size, refusal_in_lem}
use Rattle.job.specs.declared.job.Job.{Job}
use Rattle.job.specs.Jobs.{Stage, State, goes_on}
use Rattle.job.specs.Meaning.{at_stage, numbers_listed}
use Rattle.job.specs.Inner.{led}
use Rattle.job.proofs.AnswerLaws.{answer_number}
use Rattle.step.specs.declared.Stepped.{Stepped}
use Rattle.step.specs.declared.lent.StepAnswer.{StepAnswer}
use Rattle.step.specs.Promise.{step_refusal, step_of, StepPromise}
use Rattle.step.specs.Lent.{stepped, StepPromiseIn}
use Rattle.step.proofs.NumberLaws.{Idle, step_idle}

-- what a request came to, and the next job unless it was refused
pub record Carried (sent : Answered) (j next : Job) (r : Stepped) : Type 0 where
  pub refusal_is : r.refusal ≡ sent.refusal
  pub zone_is : r.zone ≡ sent.zone
  pub job_is : r.job ≡ cond (eqb sent.refusal 0) next j

-- the same where the zone is lent
pub record CarriedIn (sent : RequestAnswer) (j next : Job) (r : StepAnswer) : Type 0 where
  pub refusal_is : r.refusal ≡ sent.refusal
  pub job_is : r.job ≡ cond (eqb sent.refusal 0) next j

module _ (z : Zone) (j : Job) where
  refusal_same : (p : ℕ) → numbers_listed j ≡ true → listed j.family p ≡ true → refusal_of z (name_of j.name) j.family p ≡ step_refusal z j
  unfolding step_refusal
  refusal_same p h l = refusal_listed z (name_of j.name) j.family p l ∙ sym (rw h refl)

  pub step_kept : (p : ℕ) (o : Outcome) (rule : Answer → Stage) (sent : Answered) (next : Job) (r : Stepped)
      → numbers_listed j ≡ true → listed j.family p ≡ true → step_of z j ≡ goes_on o rule
      → Promised z (name_of j.name) (refusal_of z (name_of j.name) j.family p) o sent → next ≡ led j rule sent.answer → Carried sent j next r → StepPromise z j r
  step_kept p o rule sent next r h l s m leads c = record {
    refusal_is = c.refusal_is ∙ k.refusal_is;
    zone_kept = λ n. c.zone_is ∙ k.kept n;
    unchanged = λ e. c.zone_is ∙ k.unchanged (ap (λ (w : State). w.zone) (sym s) ∙ e);
    job_kept = λ n. c.job_is ∙ ap (λ (b : Bool). cond b next j) (ne_eqb sent.refusal 0 (λ e. n (sym k.refusal_is ∙ e)));
    zone_is = λ e. ap zone_of c.zone_is ∙ k.done e ∙ ap (λ (w : State). w.zone) (sym s);
    formed_again = λ e. ap formed c.zone_is ∙ k.formed_again e;
    spelled = λ e. ap spelling_of c.zone_is ∙ k.spelled e ∙ ap (λ (w : State). respelled (name_of j.name) w.zone (spelling_of z)) (sym s);
    job_is = λ e. c.job_is ∙ ap (λ (b : Bool). cond b next j) (eq-eqb sent.refusal 0 (k.refusal_is ∙ e))
        ∙ leads ∙ ap (led j rule) (k.answer_is ∙ ap (λ (b : Bool). cond b (number_of o.answer) 0) (eq-eqb (step_refusal z j) 0 e))
        ∙ ap (λ (a : Answer). at_stage j (rule a)) (answer_number o.answer)
        ∙ ap (λ (w : State). at_stage j w.stage) (sym s);
  }
    where
      k : Promised z (name_of j.name) (step_refusal z j) o sent
      k = subst (λ (n : ℕ). Promised z (name_of j.name) n o sent) (refusal_same p h l) m

-- ---- a zone that is lent

module _ (z : List ℕ) (j : Job) where
  abbrev n : List ℕ
  n = name_of j.name

  -- a stage that sends a request
  pub kept_in : (p : ℕ) (request : rules.Zone → Outcome) (rule : Answer → Stage) (sent : RequestAnswer) (next : Job) (after : List ℕ) (r : StepAnswer)
      → numbers_listed j ≡ true → listed j.family p ≡ true → step_of (zone_in z) j ≡ goes_on (request (zone_of (zone_in z))) rule
      → PromisedIn z n (refusal_in z n j.family p) request after sent → next ≡ led j rule sent.answer → CarriedIn sent j next r → StepPromiseIn z j after r
  kept_in p request rule sent next after r h i s m leads c = record {
    size = m.size;
    same = λ d. m.same (λ e. d (c.refusal_is ∙ m.promised.refusal_is ∙ e));
    unchanged = λ e. m.unchanged (ap (λ (w : State). w.zone) (sym s) ∙ e);
    elsewhere = m.elsewhere;
    held = λ l. step_kept (zone_in z) j p (request (zone_of (zone_in z))) rule (answered after sent) next (stepped after r) h i s
        (subst (λ (k : ℕ). Promised (zone_in z) n k (request (zone_of (zone_in z))) (answered after sent)) (sym (refusal_in_lem z n j.family p l)) m.promised)
        leads
        (record { refusal_is = c.refusal_is; zone_is = refl; job_is = c.job_is });
    refused = λ d.
        let e : sent.refusal ≡ 17 = m.promised.refusal_is ∙ sym (refusal_size z n j.family p d) in
        (c.refusal_is ∙ e, c.job_is ∙ ap (λ (b : Bool). cond b next j) (ne_eqb sent.refusal 0 (λ q. omega arith)));
  }

  -- a job that has ended
  pub idle_in : (refusal : ℕ) → numbers_listed j ≡ true → Idle j.stage → refusal ≡ refusal_in z n j.family 0 → StepPromiseIn z j z (record { refusal = refusal; job = j })
  idle_in refusal h i e = record {
    size = refl;
    same = λ d. refl;
    unchanged = λ q. refl;
    elsewhere = one_place_same z;
    held = λ l. step_idle (zone_in z) j refusal h i (e ∙ sym (refusal_in_lem z n j.family 0 l));
    refused = λ d. (e ∙ sym (refusal_size z n j.family 0 d), refl);
  }
