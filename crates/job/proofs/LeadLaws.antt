-- Where each answer's number leads a job, by the numbers of the stages. Assumes nothing.
use mathlib.Core.Path.{◌≡◌}
use Prim.Native.Nat.{ℕ}
use borrow.Author.Tests.{eq-eqb, ne_eqb}
use Rattle.job.specs.declared.job.Job.{Job}
use Rattle.job.specs.Jobs.{after, after_first, after_second}
use Rattle.job.specs.Meaning.{stage_number, stage_count, at_stage}
use Rattle.job.specs.Inner.{answer_of, led}
use Rattle.job.proofs.AnswerLaws.{failed}

-- the job with another stage's number and another count
abbrev pub placed : Job → ℕ → ℕ → Job
placed j stage count = record {
  stage = stage;
  count = count;
  family = j.family;
  policy = j.policy;
  name = j.name;
  dhcid = j.dhcid;
  address = j.address;
}

-- ---- an add, n requests sent, the one answered among them

module _ (j : Job) (x n : ℕ) where
  pub leads_done : x ≡ 0 → placed j 3 n ≡ led j (after n) x
  unfolding after at_stage stage_number stage_count answer_of
  leads_done e = rw e

  pub leads_b : x ≡ 6 → placed j 2 n ≡ led j (after n) x
  unfolding after at_stage stage_number stage_count answer_of
  leads_b e = rw e

  pub leads_conflict : x ≡ 8 → placed j 4 n ≡ led j (after n) x
  unfolding after at_stage stage_number stage_count answer_of
  leads_conflict e = rw e

  pub leads_conflict_too : x ≡ 7 → placed j 4 n ≡ led j (after n) x
  unfolding after at_stage stage_number stage_count answer_of
  leads_conflict_too e = rw e

  pub leads_no_room : x ≡ 256 → placed j 5 n ≡ led j (after n) x
  unfolding after at_stage stage_number stage_count answer_of
  leads_no_room e = rw e

  module _ (u : x ≡ 0 → ⊥) (v : x ≡ 6 → ⊥) (t : x ≡ 7 → ⊥) (w : x ≡ 8 → ⊥) (y : x ≡ 256 → ⊥) where
    pub leads_gave_up : n ≡ 6 → placed j 6 n ≡ led j (after n) x
    unfolding after at_stage stage_number stage_count answer_of
    leads_gave_up e = rw (ne_eqb x 0 u, ne_eqb x 6 v, ne_eqb x 7 t, ne_eqb x 8 w, ne_eqb x 256 y, eq-eqb n 6 e)

    pub leads_a : (n ≡ 6 → ⊥) → placed j 1 n ≡ led j (after n) x
    unfolding after at_stage stage_number stage_count answer_of
    leads_a e = rw (ne_eqb x 0 u, ne_eqb x 6 v, ne_eqb x 7 t, ne_eqb x 8 w, ne_eqb x 256 y, ne_eqb n 6 e)

-- ---- a remove

module _ (j : Job) (x : ℕ) where
  pub leads_second : x ≡ 0 → placed j 12 j.count ≡ led j after_first x
  unfolding after_first at_stage stage_number stage_count answer_of
  leads_second e = rw e

  pub leads_not_ours : (x ≡ 0 → ⊥) → placed j 13 j.count ≡ led j after_first x
  unfolding after_first at_stage stage_number stage_count
  leads_not_ours n = rw (failed x n)

  pub leads_gone : x ≡ 0 → placed j 14 j.count ≡ led j after_second x
  unfolding after_second at_stage stage_number stage_count answer_of
  leads_gone e = rw e

  pub leads_kept : (x ≡ 0 → ⊥) → placed j 15 j.count ≡ led j after_second x
  unfolding after_second at_stage stage_number stage_count
  leads_kept n = rw (failed x n)
