-- That demand 3 is not empty: jobs end in time, are not refused, and report six requests at most. Assumes nothing.
use mathlib.Core.Path.{◌≡◌, sym, subst}
use mathlib.Core.Bool.{Bool, true, false, cond, true≢false}
use mathlib.Core.List.{List, [], ◌∷◌}
use mathlib.Core.Logic.{◌⊎◌, inl, inr}
use mathlib.Core.Option.{some}
use Prim.Native.Nat.{ℕ, zero, suc, ◌≤◌, ◌<◌}
use native.Mathlib.Omega.{arith}
use lib.Dec.{eqb}
use lib.ListN.{get_elem?}
use Rattle.update.specs.Rules.{Zone, Answer, success, NXDOMAIN, YXDOMAIN, YXRRSET, NXRRSET, request_a, request_b, remove_address, remove_name}
use Rattle.job.specs.Jobs.{add, remove, Arguments, End, done, conflict, no_room, gave_up, not_ours, gone, kept, Stage, before_a, before_b, before_first, before_second, ended, Job, possible, fresh, after, passed, after_first, after_second, step, sent}
use Rattle.serial.specs.Steps.{Calls, Promises, going, Fresh, no_job, one_more, Steps, start, stepped, refused, own_steps}
use Rattle.serial.specs.Demand.{most, EndsInTime, NeverRefused, SixAtMost, Delivered}
use Rattle.update.proofs.ZoneLaws.{some≢none}
use Rattle.job.proofs.StageLaws.{each_among}
use Rattle.serial.proofs.ListLaws.{set_which}
use Rattle.serial.proofs.StageLaws.{possible_fresh, possible_step}
use Rattle.serial.proofs.Placing.{Fits}
use Rattle.serial.proofs.Demand.{Sent, some_eq, fresh_fits, begins, counts, js, its_job, stronger, demand3, left_out_idle_lem}

fits_after : (j : Arguments) (n : ℕ) (a : Answer) → j.kind ≡ add → Fits j (after n a)
unfolding after
fits_after j n success k = tt
fits_after j n YXDOMAIN k = k
fits_after j n NXDOMAIN k = go (eqb n 6)
  where
    go : (t : Bool) → Fits j (cond t (ended (gave_up n)) (before_a n))
    go true = tt
    go false = k
fits_after j n YXRRSET k = tt
fits_after j n NXRRSET k = tt
fits_after j n Answer.no_room k = tt

fits_first : (j : Arguments) (t : Bool) → j.kind ≡ remove → Fits j (cond t before_second (ended not_ours))
fits_first j true k = k
fits_first j false k = tt

fits_second : (j : Arguments) (t : Bool) → Fits j (cond t (ended gone) (ended kept))
fits_second j true = tt
fits_second j false = tt

fits_step : (j : Arguments) (z : Zone) (s : Stage) → Fits j s → Fits j (step j z s).stage
unfolding step after_first after_second
fits_step j z (before_a n) h = fits_after j (suc n) (request_a j.update z).answer h
fits_step j z (before_b n) h = fits_after j (suc n) (request_b j.policy j.update z).answer h
fits_step j z before_first h = fits_first j (passed (remove_address j.update z).answer) h
fits_step j z before_second h = fits_second j (passed (remove_name j.update z).answer)
fits_step j z (ended e) h = h

-- A job's stage is one of its kind, with a count that it can have.
pub record Regular (j : Job) : Type 0 where
  pub fits : Fits j.arguments j.stage
  pub can : possible j.stage ≡ true

pub regular_fresh : (j : Arguments) → Regular (record { arguments = j; stage = fresh j })
regular_fresh j = record { fits = fresh_fits j; can = possible_fresh j }

pub regular_step : (k : Job) (z : Zone) → Regular k → Regular (record { arguments = k.arguments; stage = (step k.arguments z k.stage).stage })
regular_step k z h = record { fits = fits_step k.arguments z k.stage h.fits; can = possible_step k.arguments z k.stage h.can }

module _ (C : Calls) (P : Promises C) (js : List Arguments) (z₀ : C.Z) (ks₀ : List C.J) (new : Fresh C js ks₀) where
  regular_first : (js : List Arguments) (ks : List C.J) → Fresh C js ks → (i : ℕ) (k : C.J) → get_elem? ks i ≡ some k → Regular (C.job_of k)
  regular_first [] [] no_job i k e = absurd (some≢none (sym e))
  regular_first (j ∷ js) (x ∷ ks) (one_more m f) zero k e = let q : x ≡ k = cc in subst (λ (u : C.J). Regular (C.job_of u)) q (subst Regular (sym (P.new j x m)) (regular_fresh j))
  regular_first (j ∷ js) (x ∷ ks) (one_more m f) (suc i) k e = regular_first js ks f i k e
  regular_first [] (x ∷ ks) f i k e = elim f [ ]
  regular_first (j ∷ js) [] f i k e = elim f [ ]

  pub regular : {z : C.Z} {ks : List C.J} → Steps C z₀ ks₀ z ks → (i : ℕ) (k : C.J) → get_elem? ks i ≡ some k → Regular (C.job_of k)
  regular start i k e = regular_first js ks₀ new i k e
  regular (refused l y j r p q) i k e = regular l i k e
  regular (stepped {z = z} {ks = ks} l n j r g p q) i k e = go (set_which ks n i j (C.job r) k g e) (λ x c d. regular l x c d)
    where
      go : ((¬ (i ≡ n)) × (get_elem? ks i ≡ some k)) ⊎ ((i ≡ n) × (C.job r ≡ k)) → ((x : ℕ) (c : C.J) → get_elem? ks x ≡ some c → Regular (C.job_of c)) → Regular (C.job_of k)
      go (inl m) h = h i k m.1
      go (inr m) h = subst (λ (u : C.J). Regular (C.job_of u)) m.1 (subst Regular (sym (P.job_after z j r p q)) (regular_step (C.job_of j) (C.zone_of z) (h n j g)))

-- A job that has not ended has sent fewer requests than its kind may.
fewer : (j : Arguments) (s : Stage) (m : ℕ) → Fits j s → possible s ≡ true → Sent s m → going s ≡ true → m < most j.kind
unfolding possible
fewer j (before_a n) m f c e g = let h : n < 6 = each_among (λ x. x < 6) n (0 ∷ 2 ∷ 4 ∷ []) (omega arith, (omega arith, (omega arith, tt))) c in rw (f) (omega arith)
fewer j (before_b n) m f c e g = let h : n < 6 = each_among (λ x. x < 6) n (1 ∷ 3 ∷ 5 ∷ []) (omega arith, (omega arith, (omega arith, tt))) c in rw (f) (omega arith)
fewer j before_first m f c e g = rw (f) (omega arith)
fewer j before_second m f c e g = rw (f) (omega arith)
fewer j (ended d) m f c e g = absurd (true≢false (sym g))

pub ends_in_time_lem : (C : Calls) → Promises C → EndsInTime C
ends_in_time_lem C P z₀ z js ks₀ ks g new l i k e o =
    let r = regular C P js z₀ ks₀ new l i k e in
    fewer (C.job_of k).arguments (C.job_of k).stage (own_steps C l i) r.fits r.can (counts C P js z₀ ks₀ (P.formed z₀ g) (begins C P js ks₀ new) l i k e) o

-- ---- six at most

pub few_sent : (e : End) (n : ℕ) → possible (ended e) ≡ true → sent e ≡ some n → n ≤ 6
unfolding possible
few_sent (done m) n c q = subst (λ (x : ℕ). x ≤ 6) (sym (some_eq q)) (each_among (λ x. x ≤ 6) m (1 ∷ 2 ∷ 3 ∷ 4 ∷ 5 ∷ 6 ∷ []) (omega arith, (omega arith, (omega arith, (omega arith, (omega arith, (omega arith, tt)))))) c)
few_sent (no_room m) n c q = subst (λ (x : ℕ). x ≤ 6) (sym (some_eq q)) (each_among (λ x. x ≤ 6) m (1 ∷ 2 ∷ 3 ∷ 4 ∷ 5 ∷ 6 ∷ []) (omega arith, (omega arith, (omega arith, (omega arith, (omega arith, (omega arith, tt)))))) c)
few_sent (conflict m) n c q = subst (λ (x : ℕ). x ≤ 6) (sym (some_eq q)) (each_among (λ x. x ≤ 6) m (2 ∷ 4 ∷ 6 ∷ []) (omega arith, (omega arith, (omega arith, tt))) c)
few_sent (gave_up m) n c q = subst (λ (x : ℕ). x ≤ 6) (sym (some_eq q)) (each_among (λ x. x ≤ 6) m (6 ∷ []) (omega arith, tt) c)
few_sent not_ours n c q = absurd (some≢none (sym q))
few_sent gone n c q = absurd (some≢none (sym q))
few_sent kept n c q = absurd (some≢none (sym q))

pub six_at_most_lem : (C : Calls) → Promises C → SixAtMost C
six_at_most_lem C P s i e n p q =
    let j = its_job C P s i e p in
    let r = regular C P s.arguments s.first_zone s.first_jobs s.fresh_jobs s.steps i j.0 j.1 in
    few_sent e n (subst (λ (t : Stage). possible t ≡ true) j.2 r.can) q

-- Zones and jobs that a step always takes: those of good form and the fresh ones are, and a step leaves such a zone and such a job.
pub record Taken (C : Calls) (OkZone : C.Z → Type 0) (Ok : C.J → Type 0) : Type 0 where
  pub formed_ok : (z : C.Z) → C.Formed z → OkZone z
  pub new_ok : (j : Arguments) (k : C.J) → C.New j k → Ok k
  pub unrefused : (z : C.Z) (k : C.J) (r : C.R) → OkZone z → Ok k → C.Step z k r → C.refusal r ≡ 0
  pub zone_ok : (z : C.Z) (k : C.J) (r : C.R) → C.Step z k r → C.refusal r ≡ 0 → OkZone (C.zone r)
  pub job_ok : (z : C.Z) (k : C.J) (r : C.R) → C.Step z k r → C.refusal r ≡ 0 → Ok (C.job r)

module _ (C : Calls) (OkZone : C.Z → Type 0) (Ok : C.J → Type 0) (T : Taken C OkZone Ok) where
  all_first : (js : List Arguments) (ks : List C.J) → Fresh C js ks → (i : ℕ) (k : C.J) → get_elem? ks i ≡ some k → Ok k
  all_first [] [] no_job i k e = absurd (some≢none (sym e))
  all_first (j ∷ js) (x ∷ ks) (one_more m f) zero k e = let q : x ≡ k = cc in subst Ok q (T.new_ok j x m)
  all_first (j ∷ js) (x ∷ ks) (one_more m f) (suc i) k e = all_first js ks f i k e
  all_first [] (x ∷ ks) f i k e = elim f [ ]
  all_first (j ∷ js) [] f i k e = elim f [ ]

  module _ (js : List Arguments) (z₀ : C.Z) (ks₀ : List C.J) (formed : C.Formed z₀) (new : Fresh C js ks₀) where
    zone_stays : {z : C.Z} {ks : List C.J} → Steps C z₀ ks₀ z ks → OkZone z
    zone_stays start = T.formed_ok z₀ formed
    zone_stays (stepped {z = z} l n j r g p q) = T.zone_ok z j r p q
    zone_stays (refused l y j r p q) = zone_stays l

    all_ok : {z : C.Z} {ks : List C.J} → Steps C z₀ ks₀ z ks → (i : ℕ) (k : C.J) → get_elem? ks i ≡ some k → Ok k
    all_ok start i k e = all_first js ks₀ new i k e
    all_ok (refused l y j r p q) i k e = all_ok l i k e
    all_ok (stepped {z = z} {ks = ks} l n j r g p q) i k e = go (set_which ks n i j (C.job r) k g e) (λ x c d. all_ok l x c d)
      where
        go : ((¬ (i ≡ n)) × (get_elem? ks i ≡ some k)) ⊎ ((i ≡ n) × (C.job r ≡ k)) → ((x : ℕ) (c : C.J) → get_elem? ks x ≡ some c → Ok c) → Ok k
        go (inl m) h = h i k m.1
        go (inr m) h = subst Ok m.1 (T.job_ok z j r p q)

  pub never_refused_lem : NeverRefused C
  never_refused_lem z₀ z js ks₀ ks formed new l i k r e p = T.unrefused z k r (zone_stays js z₀ ks₀ formed new l) (all_ok js z₀ ks₀ formed new l i k e) p

-- ---- all of it

pub deliver : (C : Calls) → Promises C → (OkZone : C.Z → Type 0) (Ok : C.J → Type 0) → Taken C OkZone Ok → Delivered C
deliver C P OkZone Ok T = record {
  demand3 = demand3 C P;
  stronger = stronger C P;
  left_out_idle = left_out_idle_lem C P;
  ends_in_time = ends_in_time_lem C P;
  never_refused = never_refused_lem C OkZone Ok T;
  six_at_most = six_at_most_lem C P;
}
