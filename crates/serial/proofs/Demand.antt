-- Demand 3, for any calls that keep the promises: the order is carried along the list of steps, with the counts beside it. Assumes nothing.
use mathlib.Core.Path.{◌≡◌, refl, sym, ◌∙◌, ap, subst, fun_ext}
use mathlib.Core.Bool.{Bool, true, false, cond, not, true≢false}
use mathlib.Core.List.{List, [], ◌∷◌, map}
use mathlib.Core.Logic.{◌⊎◌, inl, inr}
use mathlib.Core.Option.{Option, none, some}
use Prim.Native.Nat.{ℕ, zero, suc, ◌+◌, ◌<◌}
use native.Mathlib.Decide.{ℕ_discrete}
use native.Mathlib.Omega.{arith}
use lib.Dec.{eqb}
use lib.ListN.{get_elem?, set}
use borrow.Author.Tests.{eq-eqb, ne_eqb}
use Rattle.dname.specs.Name.{key}
use Rattle.octets.specs.Count.{Octets}
use Rattle.addresses.specs.Addresses.{four}
use Rattle.update.specs.Rules.{Zone, Form, keep_others, Answer, success, NXDOMAIN, YXDOMAIN, YXRRSET, NXRRSET, request_a, request_b, remove_address, remove_name}
use Rattle.job.specs.Jobs.{Kind, add, remove, Arguments, End, gave_up, not_ours, gone, kept, Stage, before_a, before_b, before_first, before_second, ended, Job, first_stage, fresh, after, passed, after_first, after_second, step, sent}
use Rattle.serial.specs.Steps.{Calls, Promises, end_at, going, Fresh, no_job, one_more, Steps, start, stepped, refused, own_steps, ChangedNothing, AtFirst, EndedFirst}
use Rattle.serial.specs.Order.{is_left_out, times, StandsOnce, In, Before, InTurn, nobody, next, Explains}
use Rattle.serial.specs.Demand.{Story, AsSeen, Demand3, Stronger, LeftOutIdle}
use Rattle.update.proofs.ZoneLaws.{some≢none, option_case, zone_eq}
use Rattle.serial.proofs.ListLaws.{set_same, set_other, set_which}
use Rattle.serial.proofs.RequestLaws.{form_step, whole, whole_sends, placed, quiet}
use Rattle.serial.proofs.OrderLaws.{serial, Agree, form_serial, times_in, times_some}
use Rattle.serial.proofs.Placing.{Ended, Fits, stand, stand_same, stand_other, ended≢2, stands, At, Inv, Real, move, shown, emptied}

-- ---- an add's count

abbrev pub Sent : Stage → ℕ → Type 0
Sent (before_a n) m = n ≡ m
Sent (before_b n) m = n ≡ m
Sent before_first m = 0 ≡ m
Sent before_second m = 1 ≡ m
Sent (ended e) m = (n : ℕ) → sent e ≡ some n → n ≡ m

pub some_eq : {n m : ℕ} → ◌≡◌ {A = Option ℕ} (some n) (some m) → m ≡ n
some_eq e = cc

sent_after : (n : ℕ) (a : Answer) → Sent (after n a) n
unfolding after
sent_after n success = λ m e. some_eq e
sent_after n YXDOMAIN = refl
sent_after n NXDOMAIN = go (eqb n 6)
  where
    go : (t : Bool) → Sent (cond t (ended (gave_up n)) (before_a n)) n
    go true = λ m e. some_eq e
    go false = refl
sent_after n YXRRSET = λ m e. some_eq e
sent_after n NXRRSET = λ m e. some_eq e
sent_after n Answer.no_room = λ m e. some_eq e

sent_1 : (a : Answer) → Sent (after_first a) 1
unfolding after_first
sent_1 a = go (passed a)
  where
    go : (t : Bool) → Sent (cond t before_second (ended not_ours)) 1
    go true = refl
    go false = λ n e. absurd (some≢none (sym e))

sent_2 : (a : Answer) → Sent (after_second a) 2
unfolding after_second
sent_2 a = go (passed a)
  where
    go : (t : Bool) → Sent (cond t (ended gone) (ended kept)) 2
    go true = λ n e. absurd (some≢none (sym e))
    go false = λ n e. absurd (some≢none (sym e))

sent_step : (j : Arguments) (z : Zone) (s : Stage) (m : ℕ) → Sent s m → Sent (step j z s).stage (m + cond (going s) 1 0)
unfolding step
sent_step j z (before_a n) m h = let e : suc n ≡ m + 1 = omega arith in subst (Sent (after (suc n) (request_a j.update z).answer)) e (sent_after (suc n) (request_a j.update z).answer)
sent_step j z (before_b n) m h = let e : suc n ≡ m + 1 = omega arith in subst (Sent (after (suc n) (request_b j.policy j.update z).answer)) e (sent_after (suc n) (request_b j.policy j.update z).answer)
sent_step j z before_first m h = let e : 1 ≡ m + 1 = omega arith in subst (Sent (after_first (remove_address j.update z).answer)) e (sent_1 (remove_address j.update z).answer)
sent_step j z before_second m h = let e : 2 ≡ m + 1 = omega arith in subst (Sent (after_second (remove_name j.update z).answer)) e (sent_2 (remove_name j.update z).answer)
sent_step j z (ended e) m h = λ n p. let q : n ≡ m = h n p in omega arith

sent_fresh : (k : Kind) → Sent (first_stage k) 0
sent_fresh add = refl
sent_fresh remove = refl

unplaced_first : (k : Kind) → placed (first_stage k) ≡ false
unplaced_first add = refl
unplaced_first remove = refl

going_first : (k : Kind) → going (first_stage k) ≡ true
going_first add = refl
going_first remove = refl

fits_fresh : (j : Arguments) (k : Kind) → j.kind ≡ k → Fits j (first_stage k)
fits_fresh j add e = e
fits_fresh j remove e = e

pub fresh_unplaced : (j : Arguments) → placed (fresh j) ≡ false
unfolding fresh
fresh_unplaced j = unplaced_first j.kind

-- a job that is not going has ended
is_over : (s : Stage) → going s ≡ false → Ended s
is_over (before_a n) h = absurd (true≢false h)
is_over (before_b n) h = absurd (true≢false h)
is_over before_first h = absurd (true≢false h)
is_over before_second h = absurd (true≢false h)
is_over (ended e) h = (e, refl)

fresh_going : (j : Arguments) → going (fresh j) ≡ true
unfolding fresh
fresh_going j = going_first j.kind

-- how often a fresh job stands in the order
fresh_stands : (j : Arguments) → stands (fresh j) ≡ 0
fresh_stands j = ap (λ (b : Bool). cond b 1 0) (fresh_unplaced j)

pub fresh_fits : (j : Arguments) → Fits j (fresh j)
unfolding fresh
fresh_fits j = fits_fresh j j.kind refl

fresh_sent : (j : Arguments) → Sent (fresh j) 0
unfolding fresh
fresh_sent j = sent_fresh j.kind

abbrev or_else : {A : Type 0} → A → Option A → A
or_else a none = a
or_else a (some b) = b

no_one : Arguments
no_one = record { kind = remove; update = record { name = []; dhcid = []; family = four; address = [] }; policy = keep_others }

-- ---- the jobs by number

module _ (C : Calls) (js : List Arguments) where
  J : ℕ → Arguments
  J i = or_else no_one (get_elem? js i)

  J-is : (i : ℕ) (j : Arguments) → get_elem? js i ≡ some j → J i ≡ j
  unfolding J
  J-is i j e = ap (or_else no_one) e

  -- the stages of the jobs by number; a number of no job has a fresh one
  abbrev stage_of_lem : ℕ → Option C.J → Stage
  stage_of_lem i none = fresh (J i)
  stage_of_lem i (some k) = (C.job_of k).stage

  stages : List C.J → ℕ → Stage
  stages ks i = stage_of_lem i (get_elem? ks i)

  stage_is : (ks : List C.J) (i : ℕ) (k : C.J) → get_elem? ks i ≡ some k → stages ks i ≡ (C.job_of k).stage
  unfolding stages
  stage_is ks i k e = ap (stage_of_lem i) e

  stage_none : (ks : List C.J) (i : ℕ) → get_elem? ks i ≡ none → stages ks i ≡ fresh (J i)
  unfolding stages
  stage_none ks i e = ap (stage_of_lem i) e

  stages_set : (ks : List C.J) (i : ℕ) (a b : C.J) → get_elem? ks i ≡ some a → stages (set ks i b) ≡ stand (stages ks) i (C.job_of b).stage
  unfolding stages
  stages_set ks i a b e = fun_ext (λ x. go x (ℕ_discrete x i))
    where
      go : (x : ℕ) → Dec (x ≡ i) → stages (set ks i b) x ≡ stand (stages ks) i (C.job_of b).stage x
      go x (yes p) =
          subst (λ (u : ℕ). stages (set ks i b) u ≡ stand (stages ks) i (C.job_of b).stage u) (sym p)
          (ap (stage_of_lem i) (set_same ks i a b e) ∙ sym (stand_same (stages ks) i (C.job_of b).stage))
      go x (no q) = ap (stage_of_lem x) (set_other ks i x b q) ∙ sym (stand_other (stages ks) i (C.job_of b).stage x q)

  -- each job keeps its arguments
  abbrev pub Along : List C.J → Type 0
  Along ks = (i : ℕ) (k : C.J) → get_elem? ks i ≡ some k → get_elem? js i ≡ some (C.job_of k).arguments

  along_set : (ks : List C.J) (i : ℕ) (a b : C.J) → get_elem? ks i ≡ some a → (C.job_of b).arguments ≡ (C.job_of a).arguments → Along ks → Along (set ks i b)
  along_set ks i a b e p h x k r = go (set_which ks i x a b k e r)
    where
      go : ((¬ (x ≡ i)) × (get_elem? ks x ≡ some k)) ⊎ ((x ≡ i) × (b ≡ k)) → get_elem? js x ≡ some (C.job_of k).arguments
      go (inl q) = h x k q.1
      go (inr q) = ap (get_elem? js) q.0 ∙ h i a e ∙ ap some (sym p ∙ ap (λ (u : C.J). (C.job_of u).arguments) q.1)

pub record Begins (C : Calls) (js : List Arguments) (ks : List C.J) : Type 0 where
  pub along : Along C js ks
  pub stage : (i : ℕ) (k : C.J) → get_elem? ks i ≡ some k → (C.job_of k).stage ≡ fresh (C.job_of k).arguments

pub begins : (C : Calls) → Promises C → (js : List Arguments) (ks : List C.J) → Fresh C js ks → Begins C js ks
begins C P [] [] no_job = record { along = λ i k e. absurd (some≢none (sym e)); stage = λ i k e. absurd (some≢none (sym e)) }
begins C P [] (k ∷ ks) f = elim f [ ]
begins C P (j ∷ js) [] f = elim f [ ]
begins C P (j ∷ js) (k ∷ ks) (one_more m f) = go (begins C P js ks f)
  where
    is : C.job_of k ≡ record { arguments = j; stage = fresh j }
    is = P.new j k m

    go : Begins C js ks → Begins C (j ∷ js) (k ∷ ks)
    go b = record { along = along; stage = stage }
      where
        along : (i : ℕ) (x : C.J) → get_elem? (k ∷ ks) i ≡ some x → get_elem? (j ∷ js) i ≡ some (C.job_of x).arguments
        along zero x e = let q : k ≡ x = cc in ap some (sym (ap (λ (u : Job). u.arguments) is) ∙ ap (λ (u : C.J). (C.job_of u).arguments) q)
        along (suc i) x e = b.along i x e

        stage : (i : ℕ) (x : C.J) → get_elem? (k ∷ ks) i ≡ some x → (C.job_of x).stage ≡ fresh (C.job_of x).arguments
        stage zero x e =
            let q : k ≡ x = cc in
            subst (λ (u : C.J). (C.job_of u).stage ≡ fresh (C.job_of u).arguments) q
            (ap (λ (u : Job). u.stage) is ∙ ap (λ (u : Job). fresh u.arguments) (sym is))
        stage (suc i) x e = b.stage i x e

-- ---- along the list

module _ (C : Calls) (P : Promises C) (js : List Arguments) (z₀ : C.Z) (ks₀ : List C.J) (g₀ : Form (C.zone_of z₀)) (b₀ : Begins C js ks₀) where
  abbrev JJ : ℕ → Arguments
  JJ = J C js

  pub along : {z : C.Z} {ks : List C.J} → Steps C z₀ ks₀ z ks → Along C js ks
  along start = b₀.along
  along (stepped {z = z} {ks = ks} l i k r g p q) =
      along_set C js ks i k (C.job r) g (ap (λ (u : Job). u.arguments) (P.job_after z k r p q)) (along l)
  along (refused l y k r p q) = along l

  first : (i : ℕ) → stages C js ks₀ i ≡ fresh (JJ i)
  first i =
      option_case (get_elem? ks₀ i) (λ e. stage_none C js ks₀ i e)
      (λ k e. stage_is C js ks₀ i k e ∙ b₀.stage i k e ∙ ap fresh (sym (J-is C js i (C.job_of k).arguments (b₀.along i k e))))

  abbrev Holds : Zone → (ℕ → Stage) → List ℕ → Type 0
  Holds z f = Inv JJ (C.zone_of z₀) g₀ (At JJ (C.zone_of z₀) g₀ z f) f

  abbrev Orders : (ℕ → ℕ → Type 0) → (ℕ → Stage) → List ℕ → Type 0
  Orders = Real JJ (C.zone_of z₀) g₀

  begin : Holds (C.zone_of z₀) (stages C js ks₀) []
  unfolding serial Agree times
  begin = record {
    put_off = λ k. [];
    names = λ k. shown refl refl (λ h p b x w. true≢false (sym (ap placed w.stage) ∙ ap placed (first x) ∙ fresh_unplaced (JJ x)));
    agree = tt;
    each = λ i. sym (ap stands (first i) ∙ fresh_stands (JJ i));
    fits = λ i. subst (Fits (JJ i)) (sym (first i)) (fresh_fits (JJ i));
  }

  -- a job that has sent no request is fresh
  unsent : {z : C.Z} {ks : List C.J} (l : Steps C z₀ ks₀ z ks) (x : ℕ) (k : C.J) → get_elem? ks x ≡ some k → own_steps C l x ≡ 0 → (C.job_of k).stage ≡ fresh (C.job_of k).arguments
  unfolding own_steps
  unsent start x k e h = b₀.stage x k e
  unsent (refused l y j r p q) x k e h = unsent l x k e h
  unsent (stepped {ks = ks} l i j r g p q) x k e h = go (set_which ks i x j (C.job r) k g e) (λ c d. unsent l x c d (omega arith))
    where
      go : ((¬ (x ≡ i)) × (get_elem? ks x ≡ some k)) ⊎ ((x ≡ i) × (C.job r ≡ k))
          → ((c : C.J) → get_elem? ks x ≡ some c → (C.job_of c).stage ≡ fresh (C.job_of c).arguments) → (C.job_of k).stage ≡ fresh (C.job_of k).arguments
      go (inl n) f = f k n.1
      go (inr n) f =
          let u : going (C.job_of j).stage ≡ true = ap going (f j (ap (get_elem? ks) n.0 ∙ g)) ∙ fresh_going (C.job_of j).arguments in
          let t : own_steps C (stepped l i j r g p q) x ≡ own_steps C l x + 1 = simp (own_steps, eq-eqb i x (sym n.0), u) in
          absurd (omega arith)

  -- A further step, of job i: if it is its first request, then i does not stand in the order yet.
  absorb : {z : C.Z} {ks : List C.J} (l : Steps C z₀ ks₀ z ks) (i : ℕ) (k : C.J) (r : C.R) (g : get_elem? ks i ≡ some k) (p : C.Step z k r) (q : C.refusal r ≡ 0) (o : List ℕ)
      → Holds (C.zone_of z) (stages C js ks) o → Orders (EndedFirst C l) (stages C js ks) o → Orders (EndedFirst C (stepped l i k r g p q)) (stages C js ks) o
  unfolding AtFirst
  absorb {ks = ks} l i k r g p q o v w = record { over = over; order = order }
    where
      over : (a b : ℕ) → EndedFirst C (stepped l i k r g p q) a b → Ended (stages C js ks a)
      over a b (inl x) = w.over a b x
      over a b (inr m) = subst Ended (sym (stage_is C js ks a m.2.job m.2.its)) (is_over (C.job_of m.2.job).stage m.2.so)

      order : (a b : ℕ) → EndedFirst C (stepped l i k r g p q) a b → In a o → In b o → Before a b o
      order a b (inl x) s t = w.order a b x s t
      order a b (inr m) s t =
          let u : 0 < times i o = times_in i o (subst (λ (x : ℕ). In x o) (sym m.0) t) in
          let n : own_steps C l i ≡ 0 = ap (own_steps C l) m.0 ∙ m.1 in
          let f : stands (stages C js ks i) ≡ 0 = ap stands (stage_is C js ks i k g ∙ unsent l i k g n) ∙ fresh_stands (C.job_of k).arguments in
          let e : times i o + times i (v.put_off (key (JJ i).update.name)) ≡ 0 = v.each i ∙ f in
          absurd (omega arith)

  abbrev So : C.Z → List C.J → (ℕ → ℕ → Type 0) → Type 0
  So z ks H = (o : List ℕ) × Holds (C.zone_of z) (stages C js ks) o × Orders H (stages C js ks) o × Form (C.zone_of z)

  run : {z : C.Z} {ks : List C.J} (l : Steps C z₀ ks₀ z ks) → So z ks (EndedFirst C l)
  unfolding AtFirst
  run start = ([], begin, record { over = λ a b x. absurd x; order = λ a b x. absurd x }, g₀)
  run (refused l y k r p q) = run l
  run (stepped {z = z} {ks = ks} l i k r g p q) = go (run l)
    where
      a : Arguments
      a = (C.job_of k).arguments

      f : ℕ → Stage
      f = stages C js ks

      s : Stage
      s = (C.job_of k).stage

      ks' : List C.J
      ks' = set ks i (C.job r)

      is_a_lem : JJ i ≡ a
      is_a_lem = J-is C js i a (along l i k g)

      zone_is_lem : (step (JJ i) (C.zone_of z) s).zone ≡ C.zone_of (C.zone r)
      zone_is_lem = ap (λ (x : Arguments). (step x (C.zone_of z) s).zone) is_a_lem ∙ sym (P.zone_after z k r p q)

      stages_are : stand f i (step (JJ i) (C.zone_of z) s).stage ≡ stages C js ks'
      stages_are =
          ap (stand f i) (ap (λ (x : Arguments). (step x (C.zone_of z) s).stage) is_a_lem ∙ sym (ap (λ (u : Job). u.stage) (P.job_after z k r p q)))
          ∙ sym (stages_set C js ks i k (C.job r) g)

      go : So z ks (EndedFirst C l) → So (C.zone r) ks' (EndedFirst C (stepped l i k r g p q))
      go (m) =
          let n = move JJ (C.zone_of z₀) g₀ (C.zone_of z) f m.0 m.1 m.3 i s (stage_is C js ks i k g) in
          let v : Holds (C.zone_of (C.zone r)) (stages C js ks') n.0 =
          subst (λ (x : Zone). Holds x (stages C js ks') n.0) zone_is_lem
          (subst (λ (h : ℕ → Stage). Holds (step (JJ i) (C.zone_of z) s).zone h n.0) stages_are n.1) in
          let w : Orders (EndedFirst C (stepped l i k r g p q)) (stages C js ks') n.0 =
          subst (λ (h : ℕ → Stage). Orders (EndedFirst C (stepped l i k r g p q)) h n.0) stages_are
          (n.2 (EndedFirst C (stepped l i k r g p q)) (absorb l i k r g p q m.0 m.1 m.2)) in
          (n.0, v, w, subst Form zone_is_lem (form_step (JJ i) (C.zone_of z) m.3 s))

  pub counts : {z : C.Z} {ks : List C.J} (l : Steps C z₀ ks₀ z ks) (x : ℕ) (k : C.J) → get_elem? ks x ≡ some k → Sent (C.job_of k).stage (own_steps C l x)
  unfolding own_steps
  counts start x k e = subst (λ (s : Stage). Sent s 0) (sym (b₀.stage x k e)) (fresh_sent (C.job_of k).arguments)
  counts (refused l y j r p q) x k e = counts l x k e
  counts (stepped {z = z} {ks = ks} l i j r g p q) x k e = go (set_which ks i x j (C.job r) k g e) (λ c d. counts l x c d)
    where
      s : Stage
      s = (C.job_of j).stage

      go : ((¬ (x ≡ i)) × (get_elem? ks x ≡ some k)) ⊎ ((x ≡ i) × (C.job r ≡ k)) → ((c : C.J) → get_elem? ks x ≡ some c → Sent (C.job_of c).stage (own_steps C l x))
          → Sent (C.job_of k).stage (own_steps C (stepped l i j r g p q) x)
      go (inl n) h =
          let u : own_steps C l x ≡ own_steps C (stepped l i j r g p q) x = rw (own_steps, ne_eqb i x (λ m. n.0 (sym m))) (omega arith) in
          subst (Sent (C.job_of k).stage) u (h k n.1)
      go (inr n) h =
          let d : Sent s (own_steps C l x) = h j (ap (get_elem? ks) n.0 ∙ g) in
          let a : (step (C.job_of j).arguments (C.zone_of z) s).stage ≡ (C.job_of k).stage =
          sym (ap (λ (v : Job). v.stage) (P.job_after z j r p q)) ∙ ap (λ (v : C.J). (C.job_of v).stage) n.1 in
          let u : own_steps C l x + cond (going s) 1 0 ≡ own_steps C (stepped l i j r g p q) x = rw (own_steps, eq-eqb i x (sym n.0)) refl in
          subst (Sent (C.job_of k).stage) u (subst (λ (v : Stage). Sent v (own_steps C l x + cond (going s) 1 0)) a (sent_step (C.job_of j).arguments (C.zone_of z) s (own_steps C l x) d))

  -- a job that does not stand in the order changed nothing
  idle : {z : C.Z} {ks : List C.J} (l : Steps C z₀ ks₀ z ks) (x : ℕ) (k : C.J) → get_elem? ks x ≡ some k → placed (C.job_of k).stage ≡ false → ChangedNothing C l x
  unfolding ChangedNothing
  idle start x k e h = tt
  idle (refused l y j r p q) x k e h = idle l x k e h
  idle (stepped {z = z} {ks = ks} l i j r g p q) x k e h = go (set_which ks i x j (C.job r) k g e) (λ c d m. idle l x c d m)
    where
      s : Stage
      s = (C.job_of j).stage

      go : ((¬ (x ≡ i)) × (get_elem? ks x ≡ some k)) ⊎ ((x ≡ i) × (C.job r ≡ k))
          → ((c : C.J) → get_elem? ks x ≡ some c → placed (C.job_of c).stage ≡ false → ChangedNothing C l x)
          → ChangedNothing C l x × (i ≡ x → C.zone_of (C.zone r) ≡ C.zone_of z)
      go (inl n) f = (f k n.1 h, λ m. absurd (n.0 (sym m)))
      go (inr n) f =
          let a : (step (C.job_of j).arguments (C.zone_of z) s).stage ≡ (C.job_of k).stage =
          sym (ap (λ (v : Job). v.stage) (P.job_after z j r p q)) ∙ ap (λ (v : C.J). (C.job_of v).stage) n.1 in
          let u = quiet (C.job_of j).arguments (C.zone_of z) s (ap placed a ∙ h) in
          (f j (ap (get_elem? ks) n.0 ∙ g) u.1, λ m. P.zone_after z j r p q ∙ u.0)

-- ---- the end of the list

-- how a job has ended tells its stage
end_stage : (s : Stage) (e : End) → end_at s ≡ some e → s ≡ ended e
end_stage (before_a n) e p = absurd (some≢none (sym p))
end_stage (before_b n) e p = absurd (some≢none (sym p))
end_stage before_first e p = absurd (some≢none (sym p))
end_stage before_second e p = absurd (some≢none (sym p))
end_stage (ended d) e p = let q : d ≡ e = cc in ap ended q

ended_ends : (C : Calls) (ks : List C.J) (es : List End) → map (λ (k : C.J). end_at (C.job_of k).stage) ks ≡ map some es
    → (i : ℕ) → ((get_elem? ks i ≡ none) × (get_elem? es i ≡ none)) ⊎ ((k : C.J) × (e : End) × (get_elem? ks i ≡ some k) × (get_elem? es i ≡ some e) × ((C.job_of k).stage ≡ ended e))
ended_ends C [] [] p i = inl (refl, refl)
ended_ends C [] (e ∷ es) p i = let z : ◌≡◌ {A = ℕ} 0 1 = cc in absurd (omega arith)
ended_ends C (k ∷ ks) [] p i = let z : ◌≡◌ {A = ℕ} 0 1 = cc in absurd (omega arith)
ended_ends C (k ∷ ks) (e ∷ es) p zero = inr (k, e, refl, refl, end_stage (C.job_of k).stage e (let q : end_at (C.job_of k).stage ≡ some e = cc in q))
ended_ends C (k ∷ ks) (e ∷ es) p (suc i) = ended_ends C ks es (let q : map (λ (k : C.J). end_at (C.job_of k).stage) ks ≡ map some es = cc in q) i

module _ (C : Calls) (P : Promises C) (s : Story C) where
  abbrev pub js : List Arguments
  js = s.arguments

  abbrev f : ℕ → Stage
  f = stages C js s.last_jobs

  pub g₀ : Form (C.zone_of s.first_zone)
  g₀ = P.formed s.first_zone s.formed

  pub b₀ : Begins C js s.first_jobs
  b₀ = begins C P js s.first_jobs s.fresh_jobs

  abbrev x₀ : Zone
  x₀ = C.zone_of s.first_zone

  abbrev x₁ : Zone
  x₁ = C.zone_of s.last_zone

  -- a number below that of the jobs: its job's end; any other: never stepped
  record Last (i : ℕ) (e : End) : Type 0 where
    arguments : get_elem? js i ≡ some (J C js i)
    is_end_lem : get_elem? s.ends i ≡ some e
    stage : f i ≡ ended e

  last : (i : ℕ) → ((e : End) × Last i e) ⊎ ((f i ≡ fresh (J C js i)) × (get_elem? s.ends i ≡ none))
  last i = go (ended_ends C s.last_jobs s.ends s.all_ended i)
    where
      go : ((get_elem? s.last_jobs i ≡ none) × (get_elem? s.ends i ≡ none))
          ⊎ ((k : C.J) × (e : End) × (get_elem? s.last_jobs i ≡ some k) × (get_elem? s.ends i ≡ some e) × ((C.job_of k).stage ≡ ended e))
          → ((e : End) × Last i e) ⊎ ((f i ≡ fresh (J C js i)) × (get_elem? s.ends i ≡ none))
      go (inl p) = inr (stage_none C js s.last_jobs i p.0, p.1)
      go (inr p) =
          let a : get_elem? js i ≡ some (C.job_of p.0).arguments = along C P js s.first_zone s.first_jobs g₀ b₀ s.steps i p.0 p.2 in
          inl (
            p.1,
            record {
              arguments = a ∙ ap some (sym (J-is C js i (C.job_of p.0).arguments a));
              is_end_lem = p.3;
              stage = stage_is C js s.last_jobs i p.0 p.2 ∙ p.4;
            },
          )

  end_of : (i : ℕ) (e : End) → get_elem? s.ends i ≡ some e → Last i e
  end_of i e p = go (last i)
    where
      go : ((d : End) × Last i d) ⊎ ((f i ≡ fresh (J C js i)) × (get_elem? s.ends i ≡ none)) → Last i e
      go (inl m) = let t : ◌≡◌ {A = Option End} (some m.0) (some e) = sym m.1.is_end_lem ∙ p in let q : m.0 ≡ e = cc in subst (Last i) q m.1
      go (inr m) = absurd (some≢none (sym p ∙ m.1))

  -- no remove job is half way
  settled : (i : ℕ) → f i ≡ before_second → ⊥
  settled i p = go (last i)
    where
      go : ((d : End) × Last i d) ⊎ ((f i ≡ fresh (J C js i)) × (get_elem? s.ends i ≡ none)) → ⊥
      go (inl m) = ended≢2 (m.0, m.1.stage) p
      go (inr m) = true≢false (sym (ap placed p) ∙ ap placed m.0 ∙ fresh_unplaced (J C js i))

  module _ (o : List ℕ) (v : Inv (J C js) x₀ g₀ (At (J C js) x₀ g₀ x₁ f) f o) (form : Form x₁) where
    all_shown : (k : Octets) → (v.put_off k ≡ []) × ((serial (J C js) x₀ o).at k ≡ x₁.at k)
    all_shown k = go (v.names k)
      where
        go : At (J C js) x₀ g₀ x₁ f (serial (J C js) x₀ o) k (v.put_off k) → (v.put_off k ≡ []) × ((serial (J C js) x₀ o).at k ≡ x₁.at k)
        go (shown a e w) = (a, e)
        go (emptied h g p ps a e b d u c w) = absurd (settled p w.0.stage)

    each : (i : ℕ) → times i o ≡ stands (f i)
    each i = let e : times i (v.put_off (key (J C js i).update.name)) ≡ 0 = ap (times i) (all_shown (key (J C js i).update.name)).0 ∙ (unfold times in refl) in omega (arith, v.each i)

    zone_same : serial (J C js) x₀ o ≡ x₁
    zone_same = zone_eq (serial (J C js) x₀ o) x₁ (form_serial (J C js) x₀ o g₀).names form.names (λ k. (all_shown k).1)

    last_in : (i : ℕ) → In i o → (e : End) × Last i e
    last_in i h = go (last i)
      where
        go : ((d : End) × Last i d) ⊎ ((f i ≡ fresh (J C js i)) × (get_elem? s.ends i ≡ none)) → (e : End) × Last i e
        go (inl m) = m
        go (inr m) =
            let u : 0 < times i o = times_in i o h in
            let t : times i o ≡ 0 = each i ∙ ap stands m.0 ∙ fresh_stands (J C js i) in
            absurd (omega arith)

    turn : (x : Zone) (q : List ℕ) → ((i : ℕ) → In i q → (e : End) × Last i e) → Agree (J C js) f x q
        → InTurn js s.ends x q (serial (J C js) x q)
    unfolding Agree serial
    turn x [] h a = nobody
    turn x (i ∷ q) h a =
        let m = h i (inl refl) in
        next i (J C js i) m.0 a.0.0 m.1.arguments m.1.is_end_lem (whole_sends (J C js i) x a.0.0 a.0.1) (λ k. a.0.2 k m.0 m.1.stage)
        (turn (whole (J C js i) x).zone q (λ k p. h k (inr p)) a.1)

    ends_times : (i : ℕ) (e : End) → get_elem? s.ends i ≡ some e → times i o ≡ cond (not (is_left_out e)) 1 0
    ends_times i e p = each i ∙ ap stands (end_of i e p).stage

    explains : Explains js s.ends x₀ x₁ o
    explains = record {
      once = λ i e p h. ends_times i e p ∙ ap (λ (b : Bool). cond (not b) 1 0) h;
      not_at_all = λ i e p h. ends_times i e p ∙ ap (λ (b : Bool). cond (not b) 1 0) h;
      in_turn = subst (InTurn js s.ends x₀ o) zone_same (turn x₀ o last_in v.agree);
    }

module _ (C : Calls) (P : Promises C) (s : Story C) (i : ℕ) (e : End) (p : get_elem? s.ends i ≡ some e) where
  -- job i at the end of the list
  pub its_job : (k : C.J) × (get_elem? s.last_jobs i ≡ some k) × ((C.job_of k).stage ≡ ended e)
  its_job = go (ended_ends C s.last_jobs s.ends s.all_ended i)
    where
      go : ((get_elem? s.last_jobs i ≡ none) × (get_elem? s.ends i ≡ none))
          ⊎ ((k : C.J) × (d : End) × (get_elem? s.last_jobs i ≡ some k) × (get_elem? s.ends i ≡ some d) × ((C.job_of k).stage ≡ ended d))
          → (k : C.J) × (get_elem? s.last_jobs i ≡ some k) × ((C.job_of k).stage ≡ ended e)
      go (inl m) = absurd (some≢none (sym p ∙ m.1))
      go (inr m) =
          let t : ◌≡◌ {A = Option End} (some m.1) (some e) = sym m.3 ∙ p in
          let u : m.1 ≡ e = cc in
          (m.0, m.2, m.4 ∙ ap ended u)

  counts_right : (n : ℕ) → sent e ≡ some n → n ≡ own_steps C s.steps i
  counts_right n q =
      let c : Sent (C.job_of its_job.0).stage (own_steps C s.steps i) =
      counts C P s.arguments s.first_zone s.first_jobs (g₀ C P s) (b₀ C P s) s.steps i its_job.0 its_job.1 in
      let d : Sent (ended e) (own_steps C s.steps i) = subst (λ (t : Stage). Sent t (own_steps C s.steps i)) its_job.2 c in
      d n q

  left_out_lem : is_left_out e ≡ true → ChangedNothing C s.steps i
  left_out_lem q = idle C P s.arguments s.first_zone s.first_jobs (g₀ C P s) (b₀ C P s) s.steps i its_job.0 its_job.1 (ap placed its_job.2 ∙ ap not q)

-- a job that stands in an order once is in it
in_once : (i : ℕ) (o : List ℕ) → StandsOnce i o → In i o
in_once i o h = times_some i o (omega arith)

pub stronger : (C : Calls) → Promises C → Stronger C
stronger C P s =
    let m = run C P s.arguments s.first_zone s.first_jobs (g₀ C P s) (b₀ C P s) s.steps in
    let seen : (a b : ℕ) → AsSeen C s m.0 a b = λ a b h p q. m.2.order a b h (in_once a m.0 p) (in_once b m.0 q) in
    (record { order = m.0; explains = explains C P s m.0 m.1 m.3; as_seen = λ a b n. seen a b; counts = λ i e n p. counts_right C P s i e p n; left_out = left_out_lem C P s }, seen)

pub demand3 : (C : Calls) → Promises C → Demand3 C
demand3 C P s a = (stronger C P s).0

pub left_out_idle_lem : (C : Calls) → Promises C → LeftOutIdle C
left_out_idle_lem C P s i e p q = left_out_lem C P s i e p q
