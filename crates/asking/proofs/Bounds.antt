-- The bounds on the requests of an add, for any calls that keep the promises: what its stage tells is carried along the list of steps.
-- Assumes nothing.
use mathlib.Core.Path.{◌≡◌, refl, sym, ◌∙◌, ap, subst}
use mathlib.Core.Bool.{Bool, true, false, cond, not, ◌&&◌}
use mathlib.Core.List.{List}
use mathlib.Core.Logic.{◌⊎◌, inl, inr}
use mathlib.Core.Option.{Option, some}
use Prim.Native.Nat.{ℕ, suc, ◌+◌, ◌≤◌, ◌<◌}
use native.Mathlib.Omega.{arith}
use lib.ListN.{get_elem?, set}
use borrow.Author.Tests.{eq-eqb, ne_eqb, le-leb, lt-leb, lt-ltb, le-ltb, ltb-true}
use borrow.Table.Steps.{cases}
use Rattle.octets.specs.Count.{Octets}
use Rattle.update.specs.Rules.{Zone, Form, there, at_key}
use Rattle.job.specs.Jobs.{add, Arguments, gave_up, Stage, before_a, ended, Job, possible, first_stage, fresh, State, step}
use Rattle.serial.specs.Steps.{Calls, Promises, going, Steps, start, stepped, refused, own_steps}
use Rattle.serial.specs.Running.{running}
use Rattle.serial.specs.OnOctets.{on_octets}
use Rattle.serial.proofs.ListLaws.{set_which}
use Rattle.serial.proofs.Demand.{Sent, Begins, begins, along, counts}
use Rattle.serial.proofs.InTime.{regular}
use Rattle.serial.proofs.Running.{kept_promises}
use Rattle.serial.proofs.OnOctets.{octets_promises}
use Rattle.asking.specs.Asking.{deletes, begun, unfinished, deletions, Add, stage, name, requests, deleted_between, most, most_going, Asking, TakesName}
use Rattle.asking.proofs.NameLaws.{no_deletion, told}
use Rattle.asking.proofs.Telling.{Tells, own, not_second_lem, other, idle, tells_so, at_most_lem, still_going_lem, gave_up_lem, six}

-- ---- a step that deletes a name takes it from the zone, and no other step does

pub takes_name : (C : Calls) → Promises C → TakesName C
takes_name C P z k r p q n =
    subst (λ (s : Stage). deletes n (C.job_of k) s ≡ (there (at_key n (C.zone_of z)) && not (there (at_key n (C.zone_of (C.zone r))))))
    (ap (λ (u : Job). u.stage) (sym (P.job_after z k r p q)))
    (subst (λ (y : Zone). deletes n (C.job_of k) w.stage ≡ (there (at_key n (C.zone_of z)) && not (there (at_key n y))))
    (sym (P.zone_after z k r p q)) (told (C.job_of k).arguments (C.zone_of z) n (C.job_of k).stage))
  where
    w : State
    w = step (C.job_of k).arguments (C.zone_of z) (C.job_of k).stage

-- ---- between the first request and the last

begun_after : (N : ℕ) → 0 < N → begun N ≡ true
unfolding begun
begun_after N l = omega (arith, lt-ltb, le-leb)

unfinished_before : (N : ℕ) → unfinished N (suc N) ≡ true
unfolding unfinished
unfinished_before N = omega (arith, lt-ltb, le-leb)

finished : (N : ℕ) → unfinished N N ≡ false
unfolding unfinished
finished N = omega (arith, le-ltb, lt-leb)

unfinished_more : (N m : ℕ) → unfinished N m ≡ true → unfinished N (suc m) ≡ true
unfolding unfinished
unfinished_more N m e = omega (arith, lt-ltb, ltb-true)

-- what a step adds to the deletions, N requests of m having been sent
abbrev adds : Bool → ℕ → ℕ → ℕ
adds deleted N m = cond (deleted && (begun N && unfinished N m)) 1 0

adds_more : (d : Bool) (N m : ℕ) → adds d N m ≤ adds d N (suc m)
adds_more d N m = go d (begun N) (unfinished N m) refl
  where
    go : (d b u : Bool) → unfinished N m ≡ u → cond (d && (b && u)) 1 0 ≤ cond (d && (b && unfinished N (suc m))) 1 0
    go true true true e = rw (unfinished_more N m e) (omega arith)
    go true true false e = omega arith
    go true false u e = omega arith
    go false b u e = omega arith

adds_none : (d : Bool) (N : ℕ) → adds d N N ≡ 0
adds_none d N = rw (finished N) (go d (begun N))
  where
    go : (d b : Bool) → ◌≡◌ {A = ℕ} (cond (d && (b && false)) 1 0) 0
    go true true = refl
    go true false = refl
    go false b = refl

adds_one : (d : Bool) (N : ℕ) → 0 < N → d ≡ true → adds d N (suc N) ≡ 1
adds_one d N l e = rw (e, begun_after N l, unfinished_before N) refl

module _ (C : Calls) (z₀ : C.Z) (ks₀ : List C.J) where
  deletions_more : {z : C.Z} {ks : List C.J} (l : Steps C z₀ ks₀ z ks) (i : ℕ) (n : Octets) (m : ℕ) → deletions C l i n m ≤ deletions C l i n (suc m)
  unfolding deletions
  deletions_more start i n m = omega arith
  deletions_more (refused l y k r p q) i n m = deletions_more l i n m
  deletions_more (stepped l x k r g p q) i n m =
      let a : deletions C l i n m ≤ deletions C l i n (suc m) = deletions_more l i n m in
      let b = adds_more (deletes n (C.job_of k) (C.job_of (C.job r)).stage) (own_steps C l i) m in
      omega arith

-- ---- along the list

module _ (C : Calls) (P : Promises C) (js : List Arguments) (z₀ : C.Z) (ks₀ : List C.J) (g₀ : Form (C.zone_of z₀)) (b₀ : Begins C js ks₀) where
  module _ (i : ℕ) (a : Arguments) (its : get_elem? js i ≡ some a) (is_add : a.kind ≡ add) where
    abbrev n : Octets
    n = a.update.name

    abbrev stands_in : C.Z → Bool
    stands_in z = there (at_key n (C.zone_of z))

    -- what job i, an add, tells after a list of steps
    abbrev So : {z : C.Z} {ks : List C.J} → Steps C z₀ ks₀ z ks → C.J → Type 0
    So {z} l k = Tells (C.job_of k).stage (stands_in z) (deletions C l i n (own_steps C l i)) (deletions C l i n (suc (own_steps C l i)))

    -- it keeps its arguments
    arguments_are : {z : C.Z} {ks : List C.J} → Steps C z₀ ks₀ z ks → (k : C.J) → get_elem? ks i ≡ some k → (C.job_of k).arguments ≡ a
    arguments_are l k e = let q : ◌≡◌ {A = Option Arguments} (some (C.job_of k).arguments) (some a) = sym (along C P js z₀ ks₀ g₀ b₀ l i k e) ∙ its in cc

    fresh_tells : (k : C.J) → get_elem? ks₀ i ≡ some k → So start k
    unfolding deletions own_steps
    fresh_tells k e = subst (λ (s : Stage). Tells s (stands_in z₀) 0 0) (sym at_first) (omega arith)
      where
        at_first : (C.job_of k).stage ≡ before_a 0
        at_first = b₀.stage i k e ∙ ap fresh (arguments_are start k e) ∙ (unfold fresh in ap first_stage is_add)

    module _ {z : C.Z} {ks : List C.J} (l : Steps C z₀ ks₀ z ks) (x : ℕ) (j : C.J) (r : C.R) (g : get_elem? ks x ≡ some j) (p : C.Step z j r) (q : C.refusal r ≡ 0) where
      abbrev next : Steps C z₀ ks₀ (C.zone r) (set ks x (C.job r))
      next = stepped l x j r g p q

      abbrev N : ℕ
      N = own_steps C l i

      abbrev D : ℕ → ℕ
      D = deletions C l i n

      abbrev del : Bool
      del = deletes n (C.job_of j) (C.job_of (C.job r)).stage

      -- a step of another job
      by_other : ¬ (i ≡ x) → (k : C.J) → get_elem? ks i ≡ some k → So l k → So next k
      unfolding deletions
      by_other m k e h =
          tells_so {s = (C.job_of k).stage} {t = stands_in (C.zone r)} refl refl (sym last) (sym now)
          (other (C.job_of k).stage (stands_in z) (stands_in (C.zone r)) N (D N) (D (suc N)) (D (suc N) + adds del N (suc N)) (counts C P js z₀ ks₀ g₀ b₀ l i k e)
          (deletions_more C z₀ ks₀ l i n N) (omega arith) taken h)
        where
          same : own_steps C next i ≡ N
          same = unfold own_steps in rw (ne_eqb x i (λ y. m (sym y))) (omega arith)

          last : deletions C next i n (own_steps C next i) ≡ D N
          last = ap (deletions C next i n) same ∙ (let y : adds del N N ≡ 0 = adds_none del N in omega arith)

          now : deletions C next i n (suc (own_steps C next i)) ≡ D (suc N) + adds del N (suc N)
          now = ap (λ (v : ℕ). deletions C next i n (suc v)) same

          taken : stands_in z ≡ true → stands_in (C.zone r) ≡ false → 0 < N → D (suc N) < D (suc N) + adds del N (suc N)
          taken t u o = let y : adds del N (suc N) ≡ 1 = adds_one del N o (takes_name C P z j r p q n ∙ rw (t, u) refl) in omega arith

      -- a step of its own
      module _ (own-step : x ≡ i) (h : So l j) where
        abbrev s : Stage
        s = (C.job_of j).stage

        is_a_lem : (C.job_of j).arguments ≡ a
        is_a_lem = arguments_are l j (ap (get_elem? ks) (sym own-step) ∙ g)

        zone_is_lem : (step a (C.zone_of z) s).zone ≡ C.zone_of (C.zone r)
        zone_is_lem = ap (λ (u : Arguments). (step u (C.zone_of z) s).zone) (sym is_a_lem) ∙ sym (P.zone_after z j r p q)

        stage_is : (step a (C.zone_of z) s).stage ≡ (C.job_of (C.job r)).stage
        stage_is = ap (λ (u : Arguments). (step u (C.zone_of z) s).stage) (sym is_a_lem) ∙ ap (λ (u : Job). u.stage) (sym (P.job_after z j r p q))

        none_deleted : (m : ℕ) → deletions C next i n m ≡ D m
        unfolding deletions
        none_deleted m = rw (no_deletion (C.job_of j).arguments n s (C.job_of (C.job r)).stage (rw (not_second_lem s (stands_in z) (D N) (D (suc N)) h) refl)) (omega arith)

        sends : going s ≡ true → So next (C.job r)
        sends o =
            tells_so stage_is (ap (λ (y : Zone). there (at_key n y)) zone_is_lem) (sym (ap (deletions C next i n) one_more_lem ∙ none_deleted (suc N)))
            (sym (ap (λ (v : ℕ). deletions C next i n (suc v)) one_more_lem ∙ none_deleted (suc (suc N))))
            (own a (C.zone_of z) (D N) (D (suc N)) (D (suc (suc N))) (deletions_more C z₀ ks₀ l i n N) s o h)
          where
            one_more_lem : own_steps C next i ≡ suc N
            one_more_lem = unfold own_steps in rw (eq-eqb x i own-step, o) (omega arith)

        stays : going s ≡ false → So next (C.job r)
        stays o =
            tells_so {t = stands_in (C.zone r)} stage_is refl (sym (ap (deletions C next i n) same ∙ none_deleted N)) refl
            (idle a (C.zone_of z) s (stands_in z) (stands_in (C.zone r)) (D N) (D (suc N)) (deletions C next i n (suc (own_steps C next i))) o h)
          where
            same : own_steps C next i ≡ N
            same = unfold own_steps in rw (eq-eqb x i own-step, o) (omega arith)

    so : {z : C.Z} {ks : List C.J} (l : Steps C z₀ ks₀ z ks) (k : C.J) → get_elem? ks i ≡ some k → So l k
    unfolding deletions own_steps
    so start k e = fresh_tells k e
    so (refused l y j r p q) k e = so l k e
    so (stepped {z = z} {ks = ks} l x j r g p q) k e = go (set_which ks x i j (C.job r) k g e) (λ c d. so l c d)
      where
        go : ((¬ (i ≡ x)) × (get_elem? ks i ≡ some k)) ⊎ ((i ≡ x) × (C.job r ≡ k)) → ((c : C.J) → get_elem? ks i ≡ some c → So l c) → So (stepped l x j r g p q) k
        go (inl m) h = by_other l x j r g p q m.0 k m.1 (h k m.1)
        go (inr m) h =
            let f : So l j = h j (ap (get_elem? ks) m.0 ∙ g) in
            subst (So (stepped l x j r g p q)) m.1 (cases (going (C.job_of j).stage) (sends l x j r g p q (sym m.0) f) (stays l x j r g p q (sym m.0) f))

-- ---- the claim

module _ (C : Calls) (P : Promises C) (a : Add C) where
  abbrev form : Form (C.zone_of a.first_zone)
  form = P.formed a.first_zone a.formed

  abbrev first : Begins C a.arguments a.first_jobs
  first = begins C P a.arguments a.first_jobs a.fresh_jobs

  abbrev counted : ℕ
  counted = deletions C a.steps a.number (name C a) (requests C a)

  abbrev stands : Bool
  stands = there (at_key (name C a) (C.zone_of a.last_zone))

  -- deleted up to now
  abbrev ever : ℕ
  ever = deletions C a.steps a.number (name C a) (suc (requests C a))

  tells : Tells (stage C a) stands counted ever
  tells =
      so C P a.arguments a.first_zone a.first_jobs form first a.number (C.job_of a.job).arguments
      (along C P a.arguments a.first_zone a.first_jobs form first a.steps a.number a.job a.its) a.is_add a.steps a.job a.its

  count : Sent (stage C a) (requests C a)
  count = counts C P a.arguments a.first_zone a.first_jobs form first a.steps a.number a.job a.its

  can : possible (stage C a) ≡ true
  can = (regular C P a.arguments a.first_zone a.first_jobs a.fresh_jobs a.steps a.number a.job a.its).can

  -- each claim, from what the stage tells
  few : requests C a ≤ most (deleted_between C a)
  unfolding most
  few = let l : requests C a ≤ most counted = at_most_lem (stage C a) stands (requests C a) counted ever tells count in omega arith

  few_six : requests C a ≤ 6
  few_six = six (stage C a) stands (requests C a) counted ever tells can count

  few_going : going (stage C a) ≡ true → requests C a ≤ most_going (deleted_between C a)
  unfolding most_going
  few_going o = let l : requests C a ≤ most_going counted = still_going_lem (stage C a) stands (requests C a) counted ever o tells count in omega arith

  three : (n : ℕ) → stage C a ≡ ended (gave_up n) → 3 ≤ deleted_between C a
  three n e = let l : 3 ≤ counted = gave_up_lem (stage C a) stands counted ever n e can tells in omega arith

pub asking : (C : Calls) → Promises C → Asking C
asking C P = record {
  at_most = few C P;
  six_at_most = λ a. let l : requests C a ≤ 6 = few_six C P a in omega arith;
  still_going = few_going C P;
  gave_up_after = λ a n e. let l : 3 ≤ deleted_between C a = three C P a n e in omega arith;
  reported = λ a e n p q. subst (λ (s : Stage). Sent s (requests C a)) p (count C P a) n q;
}

-- Theorems: of the calls that run, and of those on a zone that is kept as octets.
pub asking_runs : Asking running
asking_runs = asking running kept_promises

pub asking_octets : Asking on_octets
asking_octets = asking on_octets octets_promises

pub takes_name_runs : TakesName running
takes_name_runs = takes_name running kept_promises

pub takes_name_octets : TakesName on_octets
takes_name_octets = takes_name on_octets octets_promises
