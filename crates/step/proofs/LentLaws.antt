-- What a request's promise on a lent zone makes of a step. Assumes nothing.
use mathlib.Core.Path.{◌≡◌, refl, sym, ◌∙◌, ap, subst}
use mathlib.Core.Bool.{Bool, true, false, cond}
use mathlib.Core.List.{List}
use Prim.Native.Nat.{ℕ}
use native.Mathlib.Decide.{ℕ_discrete}
use native.Mathlib.Omega.{arith}
use lib.Dec.{eqb}
use lib.ListN.{length}
use borrow.Author.Tests.{ne_eqb}
use Rattle.dname.specs.Name.{name_of}
use Rattle.zone.specs.Meaning.{formed}
use Rattle.update.specs.Meaning.{zone_of}
use Rattle.lentzone.specs.Decode.{zone_in}
use Rattle.lentzone.proofs.DecodeLaws.{one_place_same}
use Rattle.request.specs.declared.lent.RequestAnswer.{RequestAnswer}
use Rattle.request.specs.Promise.{Promised}
use Rattle.request.specs.Lent.{refusal_in, answered, PromisedIn}
use Rattle.request.proofs.LentLaws.{refusal_size, refusal_in_lem}
use Rattle.job.specs.declared.job.Job.{Job}
use Rattle.job.specs.declared.stage.Stage as code
use Rattle.job.specs.Jobs.{State}
use Rattle.job.specs.Meaning.{numbers_listed}
use Rattle.job.specs.Inner.{Stands, led}
use Rattle.step.specs.Lent.{StepPromiseIn}
use Rattle.step.specs.Inner.{policy_read, untouched, request_at, rule_of, SentPromiseIn}
use Rattle.step.proofs.StepLaws.{Idle, idle_cases, step_at, step_kept, form_checked, checked, form_fails, form_holds, refused_form, refused_numbers}

module _ (z : List ℕ) (j : Job) where
  abbrev n : List ℕ
  n = name_of j.name

  -- a job that stands at a stage
  pub kept_in : (s : code.Stage) (sent : RequestAnswer) (next : Job) (after : List ℕ) → Stands j s → SentPromiseIn z j s after sent
      → next ≡ cond (eqb sent.refusal 0) (led j (rule_of s j.count) sent.answer) j → StepPromiseIn z j after (record { refusal = sent.refusal; job = next })
  kept_in s sent next after h m c = record {
    size = m.size;
    same = λ d. m.same (λ e. d (m.promised.refusal_is ∙ e));
    unchanged = λ e. m.unchanged (ap (λ (w : State). w.zone) (sym (step_at (zone_in z) j s h)) ∙ e);
    elsewhere = m.elsewhere;
    held = λ l. step_kept (zone_in z) j s (answered after sent) next h
        (subst (λ (k : ℕ). Promised (zone_in z) n k (request_at s j (zone_of (zone_in z))) (answered after sent)) (sym (refusal_in_lem z n j.family (policy_read s j) l)) m.promised)
        c;
    refused = λ d.
        let e : sent.refusal ≡ 17 = m.promised.refusal_is ∙ sym (refusal_size z n j.family (policy_read s j) d) in
        (e, c ∙ ap (λ (b : Bool). cond b (led j (rule_of s j.count) sent.answer) j) (ne_eqb sent.refusal 0 (λ q. omega arith)));
  }

  -- a job that has ended
  pub sent_idle_in : (s : code.Stage) (refusal : ℕ) → Idle s → refusal ≡ refusal_in z n j.family 0 → SentPromiseIn z j s z (record { refusal = refusal; answer = 0 })
  sent_idle_in s refusal i e = idle_cases (λ s. SentPromiseIn z j s z (record { refusal = refusal; answer = 0 })) k k k k k k k s i
    where
      go : refusal_in z n j.family 0 ≡ 0 → Dec (length z ≡ 23936) → formed (zone_in z) ≡ true
      go q (yes l) = form_checked (zone_in z) n j.family (refusal_in_lem z n j.family 0 l ∙ q)
      go q (no d) = let k : ◌≡◌ {A = ℕ} 17 0 = refusal_size z n j.family 0 d ∙ q in absurd (omega arith)

      k : PromisedIn z n (refusal_in z n j.family 0) untouched z (record { refusal = refusal; answer = 0 })
      k = record {
        size = refl;
        same = λ d. refl;
        unchanged = λ d. refl;
        elsewhere = one_place_same z;
        promised = checked (zone_in z) n (refusal_in z n j.family 0) refusal e (λ q. go q (ℕ_discrete (length z) 23936));
      }

  -- numbers that are not listed
  pub form_in : (k : ℕ) → k ≡ refusal_in z n j.family 0 → k ≡ 17 → StepPromiseIn z j z (record { refusal = 17; job = j })
  form_in k e q = record {
    size = refl;
    same = λ d. refl;
    unchanged = λ q. refl;
    elsewhere = one_place_same z;
    held = λ l. refused_form (zone_in z) j (form_fails (zone_in z) j 0 (refusal_in_lem z n j.family 0 l ∙ sym e ∙ q));
    refused = λ d. (refl, refl);
  }

  pub numbers_in : (k : ℕ) → k ≡ refusal_in z n j.family 0 → (k ≡ 17 → ⊥) → numbers_listed j ≡ false → StepPromiseIn z j z (record { refusal = 18; job = j })
  numbers_in k e q h = record {
    size = refl;
    same = λ d. refl;
    unchanged = λ q. refl;
    elsewhere = one_place_same z;
    held = λ l. refused_numbers (zone_in z) j (form_holds (zone_in z) j 0 (λ t. q (e ∙ sym (refusal_in_lem z n j.family 0 l) ∙ t))) h;
    refused = λ d. absurd (q (e ∙ sym (refusal_size z n j.family 0 d)));
  }
