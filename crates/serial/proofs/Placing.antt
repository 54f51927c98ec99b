-- One step of a job, seen by the order of whole jobs. A job takes its place at the end of the order with the request that decides it:
-- an add with its last, a remove with its first. But a remove that leaves a held name without address is put off, and in the order the
-- name keeps an address, until the name is deleted or gets an address again: then all that were put off for it take their places. Assumes nothing.
use mathlib.Core.Path.{◌≡◌, refl, sym, ◌∙◌, ap, subst}
use mathlib.Core.Bool.{Bool, true, false, cond, ◌&&◌, true≢false}
use mathlib.Core.List.{List, [], ◌∷◌, ◌++◌}
use mathlib.Core.Logic.{◌⊎◌, inl, inr}
use mathlib.Core.Option.{Option, none, some}
use Prim.Native.Nat.{ℕ, suc, ◌+◌, ◌<◌}
use native.Mathlib.Decide.{ℕ_discrete}
use native.Mathlib.Omega.{arith}
use lib.Dec.{eqb, ltb}
use borrow.Author.Tests.{ltb-true, eq-eqb, ne_eqb}
use borrow.Table.Steps.{cases}
use Rattle.octets.proofs.BoolLaws.{and_left, and_right}
use Rattle.octets.specs.Compare.{same_octets}
use Rattle.octets.proofs.CompareLaws.{same_self}
use Rattle.dname.specs.Name.{key}
use Rattle.octets.specs.Count.{Octets}
use Rattle.octets.proofs.CountLaws.{same_no, same_dec, counts_eq}
use Rattle.update.specs.Rules.{Host, Zone, there, GoodHost, Form, NXDOMAIN, at_name, held_by, empty, new_host, left, fits}
use Rattle.job.specs.Jobs.{add, remove, Arguments, End, done, conflict, no_room, gave_up, not_ours, gone, kept, Stage, before_a, before_b, before_first, before_second, ended, after, State, step}
use Rattle.job.specs.Meaning.{stage_number}
use Rattle.serial.specs.Order.{same_answer, times, In, Before}
use Rattle.update.proofs.ZoneLaws.{put, address, some≢none, option_case, owner_eq, owner_of, address_owner, good_left, put_at, put_off}
use Rattle.update.proofs.BareLaws.{bare, owned_bare, full, address_full, new_full, bare_new, less_bare, lacks_one}
use Rattle.serial.proofs.RequestLaws.{state, step_a_new, step_a_full, step_a_there, step_b_absent, step_b_other, step_b_full, step_b_done, step_1_other, step_1_own, step_2_kept, step_2_gone, step_1_absent, step_2_absent, whole, whole_new, whole_absent, whole_conflict, whole_done, whole_other, whole_kept, whole_gone, placed}
use Rattle.serial.proofs.OrderLaws.{Answers, same_answers, remove_answers, Says, serial, Agree, form_serial, serial_append, agree_append, agree_ext, times_append, times_in, in_append, before_left, before_cross}

abbrev pub Ended : Stage → Type 0
Ended s = (e : End) × (s ≡ ended e)

-- The stages that a job of its kind can have.
abbrev pub Fits : Arguments → Stage → Type 0
Fits j (before_a n) = j.kind ≡ add
Fits j (before_b n) = j.kind ≡ add
Fits j before_first = j.kind ≡ remove
Fits j before_second = j.kind ≡ remove
Fits j (ended e) = Unit

unfoldable pub stand : (ℕ → Stage) → ℕ → Stage → ℕ → Stage
stand f i s k = cond (eqb k i) s (f k)

pub stand_same : (f : ℕ → Stage) (i : ℕ) (s : Stage) → stand f i s i ≡ s
unfolding stand
stand_same f i s = rw (eq-eqb i i refl)

pub stand_other : (f : ℕ → Stage) (i : ℕ) (s : Stage) (k : ℕ) → ¬ (k ≡ i) → stand f i s k ≡ f k
unfolding stand
stand_other f i s k q = rw (ne_eqb k i q)

pub stand_case : (f : ℕ → Stage) (i : ℕ) (s : Stage) (P : ℕ → Stage → Type 0) → P i s → ((k : ℕ) → ¬ (k ≡ i) → P k (f k)) → (k : ℕ) → P k (stand f i s k)
stand_case f i s P a b k = go (ℕ_discrete k i)
  where
    go : Dec (k ≡ i) → P k (stand f i s k)
    go (yes p) = subst (λ (x : ℕ). P x (stand f i s x)) (sym p) (subst (P i) (sym (stand_same f i s)) a)
    go (no q) = subst (P k) (sym (stand_other f i s k q)) (b k q)

pub ended≢2 : {s : Stage} → Ended s → s ≡ before_second → ⊥
ended≢2 {s} h e = let p : s ≡ ended h.0 = h.1 in let z : ◌≡◌ {A = ℕ} 0 1 = cc in omega arith

A-live : {n : ℕ} → Ended (before_a n) → ⊥
A-live {n} h = let p : before_a n ≡ ended h.0 = h.1 in let z : ◌≡◌ {A = ℕ} 0 1 = cc in omega arith

B-live : {n : ℕ} → Ended (before_b n) → ⊥
B-live {n} h = let p : before_b n ≡ ended h.0 = h.1 in let z : ◌≡◌ {A = ℕ} 0 1 = cc in omega arith

1-live : Ended before_first → ⊥
1-live h = let p : before_first ≡ ended h.0 = h.1 in let z : ◌≡◌ {A = ℕ} 0 1 = cc in omega arith

unplaced≢2 : {s : Stage} → placed s ≡ false → s ≡ before_second → ⊥
unplaced≢2 h e = true≢false (sym (ap placed e) ∙ h)

-- How often a job stands in the order and among those put off for its name.
abbrev pub stands : Stage → ℕ
stands s = cond (placed s) 1 0

-- Two zones that differ at one name at most.
abbrev Off : Octets → Zone → Zone → Type 0
Off n x y = (k : Octets) → ¬ (n ≡ k) → x.at k ≡ y.at k

abbrev All : (ℕ → Type 0) → List ℕ → Type 0
All Q [] = Unit
All Q (i ∷ o) = Q i × All Q o

all_map : (Q R : ℕ → Type 0) → ((i : ℕ) → Q i → R i) → (o : List ℕ) → All Q o → All R o
all_map Q R f [] h = tt
all_map Q R f (k ∷ o) h = (f k h.0, all_map Q R f o h.1)

all_more : (Q : ℕ → Type 0) (o : List ℕ) (i : ℕ) → Q i → All Q o → All Q (o ++ (i ∷ []))
all_more Q [] i q h = (q, tt)
all_more Q (k ∷ o) i q h = (h.0, all_more Q o i q h.1)

all_in : (Q : ℕ → Type 0) (o : List ℕ) → All Q o → (x : ℕ) → In x o → Q x
all_in Q [] h x e = absurd e
all_in Q (k ∷ o) h x (inl e) = subst Q e h.0
all_in Q (k ∷ o) h x (inr e) = all_in Q o h.1 x e

all_not : (Q : ℕ → Type 0) (o : List ℕ) → All Q o → (x : ℕ) → (Q x → ⊥) → times x o ≡ 0
unfolding times
all_not Q [] h x n = refl
all_not Q (k ∷ o) h x n =
    let e : eqb x k ≡ false = ne_eqb x k (λ p. n (subst Q (sym p) h.0)) in
    rw e (let t : times x o ≡ 0 = all_not Q o h.1 x n in omega arith)

times_one : (x i : ℕ) → times x (i ∷ []) ≡ cond (eqb x i) 1 0
unfolding times
times_one x i = omega arith

module _ (J : ℕ → Arguments) (z₀ : Zone) (g₀ : Form z₀) where
  -- A remove job that is about to send its second request for the name, as its owner.
  pub record Waits (f : ℕ → Stage) (k : Octets) (h : Host) (x : ℕ) : Type 0 where
    pub stage : f x ≡ before_second
    pub name : key (J x).update.name ≡ k
    pub owner : h.owner ≡ some (J x).update.dhcid

  -- What the order's zone y has at the key k, beside the list's zone z, and the remove jobs that are put off for it: the same, and none; or a
  -- host of the same owner, which the first of those put off empties, where z has a held name without address.
  pub data At (z : Zone) (f : ℕ → Stage) (y : Zone) (k : Octets) (off : List ℕ) : Type 0 where
    shown : off ≡ [] → y.at k ≡ z.at k → ((h : Host) → z.at k ≡ some h → bare h ≡ true → (x : ℕ) → Waits f k h x → ⊥) → At z f y k off
    emptied : (h g : Host) (p : ℕ) (ps : List ℕ) → off ≡ p ∷ ps → z.at k ≡ some h → bare h ≡ true → y.at k ≡ some g → g.owner ≡ h.owner
        → bare (address (J p).update false g) ≡ true → All (Waits f k h) (p ∷ ps) → At z f y k off

  pub record Inv (A : Zone → Octets → List ℕ → Type 0) (f : ℕ → Stage) (o : List ℕ) : Type 0 where
    pub put_off : Octets → List ℕ
    pub names : (k : Octets) → A (serial J z₀ o) k (put_off k)
    pub agree : Agree J f z₀ o
    pub each : (x : ℕ) → times x o + times x (put_off (key (J x).update.name)) ≡ stands (f x)
    pub fits : (i : ℕ) → Fits (J i) (f i)

  -- H a b: a had ended before b sent its first request.
  pub record Real (H : ℕ → ℕ → Type 0) (f : ℕ → Stage) (o : List ℕ) : Type 0 where
    pub over : (a b : ℕ) → H a b → Ended (f a)
    pub order : (a b : ℕ) → H a b → In a o → In b o → Before a b o

  -- Jobs that have not ended take their places.
  real_append : (H : ℕ → ℕ → Type 0) (f : ℕ → Stage) (o q : List ℕ) → All (λ x. Ended (f x) → ⊥) q → Real H f o → Real H f (o ++ q)
  real_append H f o q live r = record { over = r.over; order = λ a b h p t. go a b h (in_append a o q p) (in_append b o q t) }
    where
      go : (a b : ℕ) → H a b → In a o ⊎ In a q → In b o ⊎ In b q → Before a b (o ++ q)
      go a b h (inl p) (inl t) = before_left a b o q (r.order a b h p t)
      go a b h (inl p) (inr t) = before_cross a b o q p t
      go a b h (inr p) t = absurd (all_in (λ x. Ended (f x) → ⊥) q live a p (r.over a b h))

  -- ---- those put off for a name take their places

  -- After that the order's zone has no such name.
  abbrev Cleared : Octets → Zone → (ℕ → Stage) → Zone → Octets → List ℕ → Type 0
  Cleared n z f y k ps = (n ≡ k → (y.at k ≡ none) × (ps ≡ [])) × (¬ (n ≡ k) → At z f y k ps)

  -- a list put off for one name, and for the others as before
  abbrev instead : Octets → List ℕ → (Octets → List ℕ) → Octets → List ℕ
  instead n new old k = cond (same_octets n k) new (old k)

  instead_here : (n : Octets) (new : List ℕ) (old : Octets → List ℕ) → instead n new old n ≡ new
  instead_here n new old = rw (same_self n)

  instead_off : (n : Octets) (new : List ℕ) (old : Octets → List ℕ) (k : Octets) → ¬ (n ≡ k) → instead n new old k ≡ old k
  instead_off n new old k q = rw (same_no n k q)

  module _ (f : ℕ → Stage) (fit : (x : ℕ) → Fits (J x) (f x)) (n : Octets) (h : Host) where
    removes : (x : ℕ) → Waits f n h x → (J x).kind ≡ remove
    removes x w = subst (Fits (J x)) w.stage (fit x)

    -- at an absent name they change nothing
    idle_list : (y : Zone) (ps : List ℕ) → y.at n ≡ none → All (Waits f n h) ps → (serial J y ps ≡ y) × Agree J f y ps
    unfolding serial Agree
    idle_list y [] e w = (refl, tt)
    idle_list y (p ∷ ps) e w =
        let c : whole (J p) y ≡ state y (ended not_ours) = whole_absent (J p) y (removes p w.0) (ap y.at w.0.name ∙ e) in
        let m = idle_list y ps e w.1 in (
          ap (λ (u : State). serial J u.zone ps) c ∙ m.0,
          (
            (not_ours, ap (λ (u : State). u.stage) c, remove_answers (J p) not_ours (f p) (removes p w.0)),
            subst (λ (u : State). Agree J f u.zone ps) (sym c) m.1,
          ),
        )

    module _ (y : Zone) (g : Host) (p : ℕ) (ps : List ℕ) (e : y.at n ≡ some g) (o : g.owner ≡ h.owner) (b : bare (address (J p).update false g) ≡ true)
        (w : All (Waits f n h) (p ∷ ps)) where
      abbrev c : Host
      c = address (J p).update false g

      abbrev y₁ : Zone
      y₁ = put (J p).update.name none (put (J p).update.name (some c) y)

      at_p : y.at (key (J p).update.name) ≡ some g
      at_p = ap y.at w.0.name ∙ e

      held_g : held_by (J p).update.dhcid g.owner ≡ true
      held_g = owner_of (J p).update.dhcid g.owner (o ∙ w.0.owner)

      held_c : held_by (J p).update.dhcid c.owner ≡ true
      held_c = owner_of (J p).update.dhcid c.owner (address_owner (J p).update false g ∙ o ∙ w.0.owner)

      first_gone : whole (J p) y ≡ state y₁ (ended gone)
      first_gone = whole_gone (J p) y g at_p (removes p w.0) held_g (rw held_c (sym (owned_bare (J p).update c held_c) ∙ b))

      y₁_off : Off n y₁ y
      y₁_off k q =
          put_off (J p).update.name none (put (J p).update.name (some c) y) k (λ r. q (sym w.0.name ∙ r)) ∙ put_off (J p).update.name (some c) y k (λ r. q (sym w.0.name ∙ r))

      y₁_at : y₁.at n ≡ none
      y₁_at = ap y₁.at (sym w.0.name) ∙ put_at (J p).update.name none (put (J p).update.name (some c) y)

      cleared : (serial J y (p ∷ ps) ≡ y₁) × Agree J f y (p ∷ ps)
      unfolding serial Agree
      cleared =
          let m = idle_list y₁ ps y₁_at w.1 in (
            ap (λ (u : State). serial J u.zone ps) first_gone ∙ m.0,
            (
              (gone, ap (λ (u : State). u.stage) first_gone, remove_answers (J p) gone (f p) (removes p w.0)),
              subst (λ (u : State). Agree J f u.zone ps) (sym first_gone) m.1,
            ),
          )

  off_at : (z : Zone) (f : ℕ → Stage) (n : Octets) (y y' : Zone) → Off n y' y → (k : Octets) (ps : List ℕ) → ¬ (n ≡ k) → At z f y k ps → At z f y' k ps
  off_at z f n y y' ey k ps q (shown a e w) = shown a (ey k q ∙ e) w
  off_at z f n y y' ey k ps q (emptied h g p qs a e b d u c w) = emptied h g p qs a e b (ey k q ∙ d) u c w

  flush : (z : Zone) (f : ℕ → Stage) (o : List ℕ) (v : Inv (At z f) f o) (n : Octets) (h g : Host) (p : ℕ) (ps : List ℕ) → v.put_off n ≡ p ∷ ps
      → (serial J z₀ o).at n ≡ some g → g.owner ≡ h.owner → bare (address (J p).update false g) ≡ true → All (Waits f n h) (p ∷ ps)
      → Inv (Cleared n z f) f (o ++ (p ∷ ps)) × ((H : ℕ → ℕ → Type 0) → Real H f o → Real H f (o ++ (p ∷ ps)))
  flush z f o v n h g p ps a e u b w = (
    record {
      put_off = instead n [] v.put_off;
      names = λ k. (
        λ r. (
          ap (λ (x : Zone). x.at k) zone ∙ ap (y₁ f v.fits n h y g p ps e u b w).at (sym r) ∙ y₁_at f v.fits n h y g p ps e u b w,
          ap (instead n [] v.put_off) (sym r) ∙ instead_here n [] v.put_off,
        ),
        λ q. subst (At z f (serial J z₀ (o ++ (p ∷ ps))) k) (sym (instead_off n [] v.put_off k q))
            (off_at z f n y (serial J z₀ (o ++ (p ∷ ps))) (λ k q. ap (λ (x : Zone). x.at k) zone ∙ y₁_off f v.fits n h y g p ps e u b w k q) k (v.put_off k) q (v.names k)),
      );
      agree = agree_append J f z₀ o (p ∷ ps) v.agree (cleared f v.fits n h y g p ps e u b w).1;
      each = λ x. each x (same_dec n (key (J x).update.name));
      fits = v.fits;
    },
    λ H r. real_append H f o (p ∷ ps) (all_map (Waits f n h) (λ x. Ended (f x) → ⊥) (λ x t d. ended≢2 d t.stage) (p ∷ ps) w) r,
  )
    where
      y : Zone
      y = serial J z₀ o

      zone : serial J z₀ (o ++ (p ∷ ps)) ≡ y₁ f v.fits n h y g p ps e u b w
      zone = serial_append J z₀ o (p ∷ ps) ∙ (cleared f v.fits n h y g p ps e u b w).0

      each : (x : ℕ) → Dec (n ≡ key (J x).update.name) → times x (o ++ (p ∷ ps)) + times x (instead n [] v.put_off (key (J x).update.name)) ≡ stands (f x)
      each x (yes r) =
          let t : times x (instead n [] v.put_off (key (J x).update.name)) ≡ 0 =
          ap (λ (k : Octets). times x (instead n [] v.put_off k)) (sym r) ∙ ap (times x) (instead_here n [] v.put_off) ∙ (unfold times in refl) in
          let m : times x (v.put_off (key (J x).update.name)) ≡ times x (p ∷ ps) = ap (λ (k : Octets). times x (v.put_off k)) (sym r) ∙ ap (times x) a in
          let l : times x (o ++ (p ∷ ps)) ≡ times x o + times x (p ∷ ps) = times_append x o (p ∷ ps) in
          omega (arith, v.each x)
      each x (no r) =
          let t : times x (instead n [] v.put_off (key (J x).update.name)) ≡ times x (v.put_off (key (J x).update.name)) = ap (times x) (instead_off n [] v.put_off (key (J x).update.name) r) in
          let m : times x (p ∷ ps) ≡ 0 = all_not (Waits f n h) (p ∷ ps) w x (λ k. r (sym k.name)) in
          let l : times x (o ++ (p ∷ ps)) ≡ times x o + times x (p ∷ ps) = times_append x o (p ∷ ps) in
          omega (arith, v.each x)

  -- ---- job i gets a new stage

  module _ (z : Zone) (f : ℕ → Stage) (A : Zone → Octets → List ℕ → Type 0) (o : List ℕ) (v : Inv A f o) (i : ℕ) (s : Stage) where
    abbrev n : Octets
    n = key (J i).update.name

    abbrev y : Zone
    y = serial J z₀ o

    abbrev f' : ℕ → Stage
    f' = stand f i s

    waits_on : (k : Octets) (h : Host) (x : ℕ) → ¬ (x ≡ i) → Waits f k h x → Waits f' k h x
    waits_on k h x q w = record { stage = stand_other f i s x q ∙ w.stage; name = w.name; owner = w.owner }

    waits_back : (k : Octets) (h : Host) (x : ℕ) → ¬ (x ≡ i) → Waits f' k h x → Waits f k h x
    waits_back k h x q w = record { stage = sym (stand_other f i s x q) ∙ w.stage; name = w.name; owner = w.owner }

    not_i : (k : Octets) → ¬ (n ≡ k) → (g : ℕ → Stage) (h : Host) (x : ℕ) → Waits g k h x → ¬ (x ≡ i)
    not_i k q g h x w p = q (ap (λ (t : ℕ). key (J t).update.name) (sym p) ∙ w.name)

    -- names other than its own
    off : (y' z' : Zone) → Off n y' y → Off n z' z → (k : Octets) (ps : List ℕ) → ¬ (n ≡ k) → At z f y k ps → At z' f' y' k ps
    off y' z' ey ez k ps q (shown a e w) =
        shown a (ey k q ∙ e ∙ sym (ez k q)) (λ h p b x u. w h (sym (ez k q) ∙ p) b x (waits_back k h x (not_i k q f' h x u) u))
    off y' z' ey ez k ps q (emptied h g p qs a e b d u c w) =
        emptied h g p qs a (ez k q ∙ e) b (ey k q ∙ d) u c (all_map (Waits f k h) (Waits f' k h) (λ x t. waits_on k h x (not_i k q f h x t) t) (p ∷ qs) w)

    fits_after : Fits (J i) s → (k : ℕ) → Fits (J k) (f' k)
    fits_after e = stand_case f i s (λ k t. Fits (J k) t) e (λ k q. v.fits k)

    -- a job without a place stands nowhere
    nowhere : placed (f i) ≡ false → times i o + times i (v.put_off n) ≡ 0
    nowhere a = v.each i ∙ ap (λ (b : Bool). cond b 1 0) a

    not_in : placed (f i) ≡ false → In i o → ⊥
    not_in a h = let l : 0 < times i o = times_in i o h in omega (arith, nowhere a)

    answers_after : (In i o → (d : End) → Answers (J i) d (f i) → Answers (J i) d s) → (x : ℕ) → In x o → (d : End) → Answers (J x) d (f x) → Answers (J x) d (f' x)
    answers_after h = stand_case f i s (λ k t. In k o → (d : End) → Answers (J k) d (f k) → Answers (J k) d t) h (λ k q p d a. a)

    over_after : (Ended (f i) → Ended s) → (H : ℕ → ℕ → Type 0) → Real H f o → Real H f' o
    over_after e H r = record { over = λ a b x. stand_case f i s (λ k t. Ended (f k) → Ended t) e (λ k q p. p) a (r.over a b x); order = r.order }

    module _ (was : (k : Octets) → ¬ (n ≡ k) → At z f y k (v.put_off k)) (t : Fits (J i) s) where
      -- the order stays
      hold : (z' : Zone) (new : List ℕ) → Off n z' z → ((x : ℕ) → In x o → (d : End) → Answers (J x) d (f x) → Answers (J x) d (f' x))
          → ((x : ℕ) → key (J x).update.name ≡ n → times x o + times x new ≡ stands (f' x)) → At z' f' y n new → Inv (At z' f') f' o
      hold z' new ez ag ea m = record {
        put_off = instead n new v.put_off;
        names = λ k. name k (same_dec n k);
        agree = agree_ext J f f' z₀ o ag v.agree;
        each = λ x. each x (same_dec n (key (J x).update.name));
        fits = fits_after t;
      }
        where
          name : (k : Octets) → Dec (n ≡ k) → At z' f' y k (instead n new v.put_off k)
          name k (yes r) = subst (λ (u : Octets). At z' f' y u (instead n new v.put_off u)) r (subst (At z' f' y n) (sym (instead_here n new v.put_off)) m)
          name k (no q) = subst (At z' f' y k) (sym (instead_off n new v.put_off k q)) (off y z' (λ k q. refl) ez k (v.put_off k) q (was k q))

          each : (x : ℕ) → Dec (n ≡ key (J x).update.name) → times x o + times x (instead n new v.put_off (key (J x).update.name)) ≡ stands (f' x)
          each x (yes r) =
              let l : times x (instead n new v.put_off (key (J x).update.name)) ≡ times x new =
              ap (λ (k : Octets). times x (instead n new v.put_off k)) (sym r) ∙ ap (times x) (instead_here n new v.put_off) in
              omega (arith, ea x (sym r))
          each x (no r) =
              let l : times x (instead n new v.put_off (key (J x).update.name)) ≡ times x (v.put_off (key (J x).update.name)) =
              ap (times x) (instead_off n new v.put_off (key (J x).update.name) r) in
              let e : stands (f' x) ≡ stands (f x) =
              ap stands (stand_other f i s x (λ p. r (ap (λ (k : ℕ). key (J k).update.name) (sym p)))) in
              omega (arith, v.each x)

      -- the job takes its place
      place : placed (f i) ≡ false → placed s ≡ true → (y' z' : Zone) → (whole (J i) y).zone ≡ y' → Says (J i) (whole (J i) y).stage s
          → Off n y' y → Off n z' z → At z' f' y' n (v.put_off n) → Inv (At z' f') f' (o ++ (i ∷ []))
      place a b y' z' e c ey ez m = record {
        put_off = v.put_off;
        names = λ k. subst (λ (x : Zone). At z' f' x k (v.put_off k)) (sym zone) (name k (same_dec n k));
        agree = agree_append J f' z₀ o (i ∷ []) (agree_ext J f f' z₀ o (answers_after (λ p. absurd (not_in a p))) v.agree) last;
        each = λ x. each x (ℕ_discrete x i);
        fits = fits_after t;
      }
        where
          zone : serial J z₀ (o ++ (i ∷ [])) ≡ y'
          zone = serial_append J z₀ o (i ∷ []) ∙ (unfold serial in e)

          name : (k : Octets) → Dec (n ≡ k) → At z' f' y' k (v.put_off k)
          name k (yes q) = subst (λ (u : Octets). At z' f' y' u (v.put_off u)) q m
          name k (no q) = off y' z' ey ez k (v.put_off k) q (was k q)

          last : Agree J f' (serial J z₀ o) (i ∷ [])
          last = unfold Agree in ((c.0, c.1, subst (Answers (J i) c.0) (sym (stand_same f i s)) c.2), tt)

          each : (x : ℕ) → Dec (x ≡ i) → times x (o ++ (i ∷ [])) + times x (v.put_off (key (J x).update.name)) ≡ stands (f' x)
          each x (yes p) =
              subst (λ (u : ℕ). times u (o ++ (i ∷ [])) + times u (v.put_off (key (J u).update.name)) ≡ stands (f' u)) (sym p)
              (let l : times i (o ++ (i ∷ [])) ≡ times i o + times i (i ∷ []) = times_append i o (i ∷ []) in
              let k : times i (i ∷ []) ≡ 1 = times_one i i ∙ ap (λ (u : Bool). cond u 1 0) (eq-eqb i i refl) in
              let d : stands (f' i) ≡ 1 = ap stands (stand_same f i s) ∙ ap (λ (u : Bool). cond u 1 0) b in
              omega (arith, nowhere a))
          each x (no q) =
              let l : times x (o ++ (i ∷ [])) ≡ times x o + times x (i ∷ []) = times_append x o (i ∷ []) in
              let k : times x (i ∷ []) ≡ 0 = times_one x i ∙ ap (λ (u : Bool). cond u 1 0) (ne_eqb x i q) in
              let d : stands (f' x) ≡ stands (f x) = ap stands (stand_other f i s x q) in
              omega (arith, v.each x)

      real_place : (Ended (f i) → ⊥) → (H : ℕ → ℕ → Type 0) → Real H f o → Real H f' (o ++ (i ∷ []))
      real_place live H r = record { over = (over_after (λ d. absurd (live d)) H r).over; order = (real_append H f o (i ∷ []) (live, tt) r).order }

  -- ---- the four requests

  module _ (z : Zone) (f : ℕ → Stage) (o : List ℕ) (v : Inv (At z f) f o) (form : Form z) (i : ℕ) where
    abbrev j : Arguments
    j = J i

    abbrev m : Octets
    m = key j.update.name

    abbrev x₀ : Zone
    x₀ = serial J z₀ o

    abbrev pub Next : Zone → Stage → Type 1
    Next z' s = (o' : List ℕ) × Inv (At z' (stand f i s)) (stand f i s) o' × ((H : ℕ → ℕ → Type 0) → Real H f o → Real H (stand f i s) o')

    abbrev was : (k : Octets) → ¬ (m ≡ k) → At z f x₀ k (v.put_off k)
    was k q = v.names k

    -- the zone and what stands beside it stay
    same_at : (s : Stage) → (s ≡ before_second → ⊥) → ((h : Host) → z.at m ≡ some h → bare h ≡ true → Waits f m h i → ⊥)
        → At z f x₀ m (v.put_off m) → At z (stand f i s) x₀ m (v.put_off m)
    same_at s s2 w (shown a e u) =
        shown a e (λ h p b x t. u h p b x (waits_back z f (At z f) o v i s m h x (λ r. s2 (sym (stand_same f i s) ∙ ap (stand f i s) (sym r) ∙ t.stage)) t))
    same_at s s2 w (emptied h g p ps a e b d u c l) =
        emptied h g p ps a e b d u c
        (all_map (Waits f m h) (Waits (stand f i s) m h) (λ x t. waits_on z f (At z f) o v i s m h x (λ r. w h e b (subst (Waits f m h) r t)) t) (p ∷ ps) l)

    still : (s : Stage) → placed s ≡ placed (f i) → (In i o → (d : End) → Answers j d (f i) → Answers j d s) → (Ended (f i) → Ended s) → Fits j s → (s ≡ before_second → ⊥)
        → ((h : Host) → z.at m ≡ some h → bare h ≡ true → Waits f m h i → ⊥) → Next z s
    still s e says ends t s2 w = (
      o,
      hold z f (At z f) o v i s was t z (v.put_off m) (λ k q. refl) (answers_after z f (At z f) o v i s says)
          (λ x r. let l : times x (v.put_off m) ≡ times x (v.put_off (key (J x).update.name)) = ap (λ (k : Octets). times x (v.put_off k)) (sym r) in
          let c : stands (f x) ≡ stands (stand f i s x) = ap (λ (b : Bool). cond b 1 0) (keeps x) in
          omega (arith, v.each x))
          (same_at s s2 w (v.names m)),
      over_after z f (At z f) o v i s ends,
    )
      where
        keeps : (k : ℕ) → placed (f k) ≡ placed (stand f i s k)
        keeps = stand_case f i s (λ k t. placed (f k) ≡ placed t) (sym e) (λ k q. refl)

    -- no name but z's in the order's zone, and all of those
    there_same : (k : Octets) → there (x₀.at k) ≡ there (z.at k)
    there_same k = go (v.names k)
      where
        go : At z f x₀ k (v.put_off k) → there (x₀.at k) ≡ there (z.at k)
        go (shown a e w) = ap there e
        go (emptied h g p ps a e b d u c w) = ap there d ∙ sym (ap there e)

    size_same : x₀.size ≡ z.size
    size_same = counts_eq (form_serial J z₀ o g₀).names form.names there_same

    absent_x : z.at m ≡ none → (v.put_off m ≡ []) × (x₀.at m ≡ none)
    absent_x e = go (v.names m)
      where
        go : At z f x₀ m (v.put_off m) → (v.put_off m ≡ []) × (x₀.at m ≡ none)
        go (shown a d w) = (a, d ∙ e)
        go (emptied h g p ps a d b l u c w) = absurd (some≢none (sym d ∙ e))

    -- the order's zone has the name, with that owner
    owner_x : (h : Host) → z.at m ≡ some h → (g : Host) × (x₀.at m ≡ some g) × (g.owner ≡ h.owner)
    owner_x h e = go (v.names m)
      where
        go : At z f x₀ m (v.put_off m) → (g : Host) × (x₀.at m ≡ some g) × (g.owner ≡ h.owner)
        go (shown a d w) = (h, d ∙ e, refl)
        go (emptied k g p ps a d b l u c w) =
            let r : ◌≡◌ {A = Option Host} (some k) (some h) = sym d ∙ e in
            let q : k ≡ h = cc in
            (g, l, u ∙ ap (λ (t : Host). t.owner) q)

    the_same : (h g : Host) → z.at m ≡ some h → z.at m ≡ some g → h ≡ g
    the_same h g p q = let r : ◌≡◌ {A = Option Host} (some h) (some g) = sym p ∙ q in cc

    put_bare : (d : Host) → bare d ≡ false → (w : Zone) (h : Host) → (put j.update.name (some d) w).at m ≡ some h → bare h ≡ true → ⊥
    put_bare d b w h p c =
        let r : ◌≡◌ {A = Option Host} (some d) (some h) = sym (put_at j.update.name (some d) w) ∙ p in
        let q : d ≡ h = cc in
        true≢false (sym c ∙ ap bare (sym q) ∙ b)

    via : (s : Stage) {w : State} → step j z s ≡ w → Next w.zone w.stage → Next (step j z s).zone (step j z s).stage
    via s e t = subst (λ (u : State). Next u.zone u.stage) (sym e) t

    both_done : (n c : ℕ) → Answers j (done n) (ended (done c))
    both_done n c = same_answers j (done n) (done c) (unfold same_answer stage_number in refl)

    both_conflict : (n c : ℕ) → Answers j (conflict n) (ended (conflict c))
    both_conflict n c = same_answers j (conflict n) (conflict c) (unfold same_answer stage_number in refl)

    -- a job that takes its place: it had not
    module _ (live : Ended (f i) → ⊥) (a : placed (f i) ≡ false) where
      quietly : (s : Stage) → placed s ≡ false → Fits j s → Next z s
      quietly s e t = still s (e ∙ sym a) (λ p. absurd (not_in z f (At z f) o v i s a p)) (λ d. absurd (live d)) t (unplaced≢2 e) (λ h p b w. unplaced≢2 a w.stage)

      -- and changes nothing
      idle : (s : Stage) → placed s ≡ true → Fits j s → (s ≡ before_second → ⊥) → (d : End) → whole j x₀ ≡ state x₀ (ended d) → Answers j d s → Next z s
      idle s b t s2 d c q = (
        o ++ (i ∷ []),
        place z f (At z f) o v i s was t a b x₀ z (ap (λ (u : State). u.zone) c) (d, ap (λ (u : State). u.stage) c, q) (λ k q. refl) (λ k q. refl)
            (same_at s s2 (λ h p b w. unplaced≢2 a w.stage) (v.names m)),
        real_place z f (At z f) o v i s was t live,
      )

      -- and writes d at the name, as the whole job does
      writes : (s : Stage) → placed s ≡ true → Fits j s → v.put_off m ≡ [] → (d : Host) → bare d ≡ false
          → (c : End) → whole j x₀ ≡ state (put j.update.name (some d) x₀) (ended c) → Answers j c s → Next (put j.update.name (some d) z) s
      writes s b t l d full c e q = (
        o ++ (i ∷ []),
        place z f (At z f) o v i s was t a b (put j.update.name (some d) x₀) (put j.update.name (some d) z) (ap (λ (u : State). u.zone) e) (c, ap (λ (u : State). u.stage) e, q)
            (put_off j.update.name (some d) x₀) (put_off j.update.name (some d) z)
            (shown l (put_at j.update.name (some d) x₀ ∙ sym (put_at j.update.name (some d) z)) (λ h p w x u. put_bare d full z h p w)),
        real_place z f (At z f) o v i s was t live,
      )

      -- it is put off
      defer : (z' : Zone) → Fits j before_second → Off m z' z → At z' (stand f i before_second) x₀ m (v.put_off m ++ (i ∷ [])) → Next z' before_second
      defer z' t ez c = (
        o,
        hold z f (At z f) o v i before_second was t z' (v.put_off m ++ (i ∷ [])) ez (answers_after z f (At z f) o v i before_second (λ p. absurd (not_in z f (At z f) o v i before_second a p)))
            (λ x r. each x r (ℕ_discrete x i)) c,
        over_after z f (At z f) o v i before_second (λ d. absurd (live d)),
      )
        where
          each : (x : ℕ) → key (J x).update.name ≡ m → Dec (x ≡ i) → times x o + times x (v.put_off m ++ (i ∷ [])) ≡ stands (stand f i before_second x)
          each x r (yes p) =
              subst (λ (u : ℕ). times u o + times u (v.put_off m ++ (i ∷ [])) ≡ stands (stand f i before_second u)) (sym p)
              (let l : times i (v.put_off m ++ (i ∷ [])) ≡ times i (v.put_off m) + times i (i ∷ []) = times_append i (v.put_off m) (i ∷ []) in
              let k : times i (i ∷ []) ≡ 1 = times_one i i ∙ ap (λ (u : Bool). cond u 1 0) (eq-eqb i i refl) in
              let d : stands (stand f i before_second i) ≡ 1 = ap stands (stand_same f i before_second) in
              omega (arith, nowhere z f (At z f) o v i before_second a))
          each x r (no q) =
              let l : times x (v.put_off m ++ (i ∷ [])) ≡ times x (v.put_off m) + times x (i ∷ []) = times_append x (v.put_off m) (i ∷ []) in
              let k : times x (i ∷ []) ≡ 0 = times_one x i ∙ ap (λ (u : Bool). cond u 1 0) (ne_eqb x i q) in
              let d : stands (stand f i before_second x) ≡ stands (f x) = ap stands (stand_other f i before_second x q) in
              let e : times x (v.put_off (key (J x).update.name)) ≡ times x (v.put_off m) = ap (λ (k : Octets). times x (v.put_off k)) r in
              omega (arith, v.each x)

    module _ (c : ℕ) (fi : f i ≡ before_a c) where
      kind_a : j.kind ≡ add
      kind_a = subst (Fits j) fi (v.fits i)

      live_a : Ended (f i) → ⊥
      live_a d = A-live (subst Ended fi d)

      move_a : Next (step j z (before_a c)).zone (step j z (before_a c)).stage
      move_a =
          option_case (at_name j.update z)
          (λ e. cases (ltb z.size 64)
          (λ r. via (before_a c) (step_a_new j z c e r)
          (writes live_a (ap placed fi) (ended (done (suc c))) refl tt (absent_x e).0 (new_host j.update) (new_full j.update) (done 1)
          (whole_new j x₀ kind_a (absent_x e).1 (let l : z.size < 64 = ltb-true z.size 64 r in omega (arith, size_same))) (both_done 1 (suc c))))
          (λ r. via (before_a c) (step_a_full j z c e r) (quietly live_a (ap placed fi) (ended (no_room (suc c))) refl tt)))
          (λ h e. via (before_a c) (step_a_there j z c h e) (quietly live_a (ap placed fi) (before_b (suc c)) refl kind_a))

    module _ (c : ℕ) (fi : f i ≡ before_b c) where
      kind_b : j.kind ≡ add
      kind_b = subst (Fits j) fi (v.fits i)

      live_b : Ended (f i) → ⊥
      live_b d = B-live (subst Ended fi d)

      again : (n : ℕ) → Next z (after n NXDOMAIN)
      unfolding after
      again n = go (eqb n 6)
        where
          go : (t : Bool) → Next z (cond t (ended (gave_up n)) (before_a n))
          go true = quietly live_b (ap placed fi) (ended (gave_up n)) refl tt
          go false = quietly live_b (ap placed fi) (before_a n) refl kind_b

      other_b : (h : Host) → z.at m ≡ some h → held_by j.update.dhcid h.owner ≡ false → Next z (ended (conflict (suc c)))
      other_b h e q =
          let g = owner_x h e in
          idle live_b (ap placed fi) (ended (conflict (suc c))) refl tt (ended≢2 (conflict (suc c), refl)) (conflict 2)
          (whole_conflict j x₀ g.0 g.1 kind_b (ap (held_by j.update.dhcid) g.2 ∙ q)) (both_conflict 2 (suc c))

      done_b : (h : Host) → z.at m ≡ some h → held_by j.update.dhcid h.owner ≡ true → fits j.update (left j.update.family j.policy h) ≡ true
          → Next (put j.update.name (some (address j.update true (left j.update.family j.policy h))) z) (ended (done (suc c)))
      done_b h e q r = go (v.names m)
        where
          d : Host
          d = address j.update true (left j.update.family j.policy h)

          good : GoodHost h
          good = form.hosts m h e

          full : bare d ≡ false
          full = address_full j.update (left j.update.family j.policy h) (good_left j.update.family j.policy h good) r

          go : At z f x₀ m (v.put_off m) → Next (put j.update.name (some d) z) (ended (done (suc c)))
          go (shown a p w) = writes live_b (ap placed fi) (ended (done (suc c))) refl tt a d full (done 2) (whole_done j x₀ h (p ∙ e) kind_b q r) (both_done 2 (suc c))
          go (emptied k g p ps a l b t u n w) =
              let fl = flush z f o v m k g p ps a t u n w in
              let y : Zone = serial J z₀ (o ++ (p ∷ ps)) in
              let ya : y.at m ≡ none = ((fl.0.names m).0 refl).0 in
              let within : (x : Octets) → there (y.at x) ≡ true → there (z.at x) ≡ true = λ x h. on x h (fl.0.names x) (same_dec m x) in
              let s : d ≡ new_host j.update = bare_new j.update j.policy h good q (ap bare (the_same h k e l) ∙ b) in
              let sz : y.size < z.size = lacks_one y z m k (form_serial J z₀ (o ++ (p ∷ ps)) g₀).names form.names within ya l in
              let wh : whole j y ≡ state (put j.update.name (some d) y) (ended (done 1)) =
              subst (λ (x : Host). whole j y ≡ state (put j.update.name (some x) y) (ended (done 1))) (sym s) (whole_new j y kind_b ya (omega (arith, form.few))) in (
                (o ++ (p ∷ ps)) ++ (i ∷ []),
                place z f (Cleared m z f) (o ++ (p ∷ ps)) fl.0 i (ended (done (suc c))) (λ x q. (fl.0.names x).1 q) tt (ap placed fi) refl (put j.update.name (some d) y)
                    (put j.update.name (some d) z) (ap (λ (u : State). u.zone) wh) (done 1, ap (λ (u : State). u.stage) wh, both_done 1 (suc c)) (put_off j.update.name (some d) y) (put_off j.update.name (some d) z)
                    (shown ((fl.0.names m).0 refl).1 (put_at j.update.name (some d) y ∙ sym (put_at j.update.name (some d) z)) (λ h p w x u. put_bare d full z h p w)),
                λ H r. real_place z f (Cleared m z f) (o ++ (p ∷ ps)) fl.0 i (ended (done (suc c))) (λ x q. (fl.0.names x).1 q) tt live_b H (fl.1 H r),
              )
            where
              yy : Zone
              yy = serial J z₀ (o ++ (p ∷ ps))

              at_there : (x : Octets) (qs : List ℕ) → At z f yy x qs → there (yy.at x) ≡ true → there (z.at x) ≡ true
              at_there x qs (shown a e w) t = ap there (sym e) ∙ t
              at_there x qs (emptied h g p ps a e b d u c w) t = ap there e

              on : (x : Octets) → there (yy.at x) ≡ true → Cleared m z f yy x ((flush z f o v m k g p ps a t u n w).0.put_off x) → Dec (m ≡ x) → there (z.at x) ≡ true
              on x h r (yes s) = ap (λ (u : Octets). there (z.at u)) (sym s) ∙ ap there l
              on x h r (no s) = at_there x ((flush z f o v m k g p ps a t u n w).0.put_off x) (r.1 s) h

      move_b : Next (step j z (before_b c)).zone (step j z (before_b c)).stage
      move_b =
          option_case (at_name j.update z) (λ e. via (before_b c) (step_b_absent j z c e) (again (suc c)))
          (λ h e. cases (held_by j.update.dhcid h.owner)
          (λ q. cases (fits j.update (left j.update.family j.policy h))
          (λ r. via (before_b c) (step_b_done j z h e c q r) (done_b h e q r))
          (λ r. via (before_b c) (step_b_full j z h e c q r) (quietly live_b (ap placed fi) (ended (no_room (suc c))) refl tt)))
          (λ q. via (before_b c) (step_b_other j z h e c q) (other_b h e q)))

    module _ (fi : f i ≡ before_first) where
      kind_1 : j.kind ≡ remove
      kind_1 = subst (Fits j) fi (v.fits i)

      live_1 : Ended (f i) → ⊥
      live_1 d = 1-live (subst Ended fi d)

      not_ours_1 : whole j x₀ ≡ state x₀ (ended not_ours) → Next z (ended not_ours)
      not_ours_1 w = idle live_1 (ap placed fi) (ended not_ours) refl tt (ended≢2 (not_ours, refl)) not_ours w (remove_answers j not_ours (ended not_ours) kind_1)

      own_1 : (h : Host) → z.at m ≡ some h → held_by j.update.dhcid h.owner ≡ true → Next (put j.update.name (some (address j.update false h)) z) before_second
      own_1 h e q = go (v.names m)
        where
          c : Host
          c = address j.update false h

          z' : Zone
          z' = put j.update.name (some c) z

          owner_c : c.owner ≡ some j.update.dhcid
          owner_c = address_owner j.update false h ∙ owner_eq j.update.dhcid h.owner q

          held_c : held_by j.update.dhcid c.owner ≡ true
          held_c = owner_of j.update.dhcid c.owner owner_c

          me : Waits (stand f i before_second) m c i
          me = record { stage = stand_same f i before_second; name = refl; owner = owner_c }

          on : (k : Host) → z.at m ≡ some k → (x : ℕ) → Waits f m k x → Waits (stand f i before_second) m c x
          on k l x r = record {
            stage = stand_other f i before_second x (λ p. unplaced≢2 (ap placed fi) (ap f (sym p) ∙ r.stage)) ∙ r.stage;
            name = r.name;
            owner = address_owner j.update false h ∙ ap (λ (u : Host). u.owner) (the_same h k e l) ∙ r.owner;
          }

          go : At z f x₀ m (v.put_off m) → Next z' before_second
          go (shown a p w) =
              cases (bare c)
              (λ b. defer live_1 (ap placed fi) z' kind_1 (put_off j.update.name (some c) z)
              (emptied c h i [] (ap (λ (l : List ℕ). l ++ (i ∷ [])) a) (put_at j.update.name (some c) z) b (p ∙ e) (sym (address_owner j.update false h)) b (me, tt)))
              (λ b. writes live_1 (ap placed fi) before_second refl kind_1 a c b kept
              (whole_kept j x₀ h (p ∙ e) kind_1 q (rw held_c (sym (owned_bare j.update c held_c) ∙ b))) (remove_answers j kept before_second kind_1))
          go (emptied k g p ps a l b t u n w) =
              let s : h ≡ k = the_same h k e l in
              defer live_1 (ap placed fi) z' kind_1 (put_off j.update.name (some c) z)
              (emptied c g p (ps ++ (i ∷ [])) (ap (λ (l : List ℕ). l ++ (i ∷ [])) a) (put_at j.update.name (some c) z) (less_bare j.update h (form.hosts m h e) q (ap bare s ∙ b)) t
              (u ∙ sym (address_owner j.update false h ∙ ap (λ (x : Host). x.owner) s)) n
              (all_more (Waits (stand f i before_second) m c) (p ∷ ps) i me (all_map (Waits f m k) (Waits (stand f i before_second) m c) (on k l) (p ∷ ps) w)))

      move_1 : Next (step j z before_first).zone (step j z before_first).stage
      move_1 =
          option_case (at_name j.update z) (λ e. via before_first (step_1_absent j z e) (not_ours_1 (whole_absent j x₀ kind_1 (absent_x e).1)))
          (λ h e. cases (held_by j.update.dhcid h.owner) (λ q. via before_first (step_1_own j z h e q) (own_1 h e q))
          (λ q. via before_first (step_1_other j z h e q)
          (let g = owner_x h e in not_ours_1 (whole_other j x₀ g.0 g.1 kind_1 (ap (held_by j.update.dhcid) g.2 ∙ q)))))

    module _ (fi : f i ≡ before_second) where
      kind_2 : j.kind ≡ remove
      kind_2 = subst (Fits j) fi (v.fits i)

      keep_2 : ((h : Host) → z.at m ≡ some h → bare h ≡ true → Waits f m h i → ⊥) → Next z (ended kept)
      keep_2 w = still (ended kept) (sym (ap placed fi)) (λ p d a. remove_answers j d (ended kept) kind_2) (λ d. absurd (ended≢2 d fi)) tt (ended≢2 (kept, refl)) w

      gone_2 : (h : Host) → z.at m ≡ some h → (held_by j.update.dhcid h.owner && empty h) ≡ true → Next (put j.update.name none z) (ended gone)
      gone_2 h e q = go (v.names m)
        where
          own : held_by j.update.dhcid h.owner ≡ true
          own = and_left (held_by j.update.dhcid h.owner) (empty h) q

          keeps : (k : ℕ) → placed (f k) ≡ placed (stand f i (ended gone) k)
          keeps = stand_case f i (ended gone) (λ k t. placed (f k) ≡ placed t) (ap placed fi) (λ k q. refl)

          go : At z f x₀ m (v.put_off m) → Next (put j.update.name none z) (ended gone)
          go (shown a d w) =
              absurd (w h e (owned_bare j.update h own ∙ and_right (held_by j.update.dhcid h.owner) (empty h) q) i (record { stage = fi; name = refl; owner = owner_eq j.update.dhcid h.owner own }))
          go (emptied k g p ps a l b t u n w) =
              let fl = flush z f o v m k g p ps a t u n w in (
                o ++ (p ∷ ps),
                hold z f (Cleared m z f) (o ++ (p ∷ ps)) fl.0 i (ended gone) (λ x q. (fl.0.names x).1 q) tt (put j.update.name none z) [] (put_off j.update.name none z)
                    (answers_after z f (Cleared m z f) (o ++ (p ∷ ps)) fl.0 i (ended gone) (λ p d a. remove_answers j d (ended gone) kind_2))
                    (λ x r. let c : times x [] ≡ times x (fl.0.put_off (key (J x).update.name)) = ap (times x) (sym (ap fl.0.put_off r ∙ ((fl.0.names m).0 refl).1)) in
                    let s : stands (f x) ≡ stands (stand f i (ended gone) x) = ap (λ (b : Bool). cond b 1 0) (keeps x) in
                    omega (arith, fl.0.each x))
                    (shown refl (((fl.0.names m).0 refl).0 ∙ sym (put_at j.update.name none z)) (λ c r b x u. some≢none (sym r ∙ put_at j.update.name none z))),
                λ H r. over_after z f (Cleared m z f) (o ++ (p ∷ ps)) fl.0 i (ended gone) (λ d. absurd (ended≢2 d fi)) H (fl.1 H r),
              )

      move_2 : Next (step j z before_second).zone (step j z before_second).stage
      move_2 =
          option_case (at_name j.update z) (λ e. via before_second (step_2_absent j z e) (keep_2 (λ h p b w. some≢none (sym p ∙ e))))
          (λ h e. cases (held_by j.update.dhcid h.owner && empty h) (λ q. via before_second (step_2_gone j z h e q) (gone_2 h e q))
          (λ q. via before_second (step_2_kept j z h e q) (keep_2 (λ k p b w. no_way h e q k p b w))))
        where
          no_way : (h : Host) → z.at m ≡ some h → (held_by j.update.dhcid h.owner && empty h) ≡ false → (k : Host) → z.at m ≡ some k → bare k ≡ true → Waits f m k i → ⊥
          no_way h e q k p b w =
              let s : h ≡ k = the_same h k e p in
              let u : held_by j.update.dhcid k.owner ≡ true = owner_of j.update.dhcid k.owner w.owner in
              let t : (held_by j.update.dhcid k.owner && empty k) ≡ false = subst (λ (x : Host). (held_by j.update.dhcid x.owner && empty x) ≡ false) s q in
              true≢false (sym b ∙ owned_bare j.update k u ∙ rw u at t)

    pub move : (s : Stage) → f i ≡ s → Next (step j z s).zone (step j z s).stage
    move (before_a c) fi = move_a c fi
    move (before_b c) fi = move_b c fi
    move before_first fi = move_1 fi
    move before_second fi = move_2 fi
    move (ended e) fi =
        unfold step in still (ended e) (sym (ap placed fi)) (λ p d a. subst (Answers j d) fi a) (λ d. (e, refl)) tt (ended≢2 (e, refl)) (λ h p b w. ended≢2 (e, fi) w.stage)
