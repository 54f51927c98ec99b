-- Orders of whole jobs, put one behind the other. Assumes nothing.
use mathlib.Core.Path.{◌≡◌, refl, sym, ◌∙◌, ap, subst}
use mathlib.Core.Bool.{Bool, true, cond}
use mathlib.Core.List.{List, [], ◌∷◌, ◌++◌}
use mathlib.Core.Logic.{◌⊎◌, inl, inr}
use Prim.Native.Nat.{ℕ, ◌+◌, ◌<◌}
use native.Mathlib.Decide.{ℕ_discrete}
use native.Mathlib.Omega.{arith}
use lib.Dec.{eqb}
use borrow.Author.Tests.{eq-eqb, ne_eqb}
use Rattle.update.specs.Rules.{Zone, Form}
use Rattle.job.specs.Jobs.{add, remove, Arguments, End, Stage, ended}
use Rattle.serial.specs.Order.{same_answer, times, In, Before}
use Rattle.serial.proofs.RequestLaws.{whole, form_whole}

-- A job ends d in the order, and stands at a stage in the list: if it is an add that has ended there, d is the same answer.
abbrev pub Answers : Arguments → End → Stage → Type 0
Answers j d s = j.kind ≡ add → (e : End) → s ≡ ended e → same_answer d e ≡ true

pub same_answers : (j : Arguments) (d e : End) → same_answer d e ≡ true → Answers j d (ended e)
same_answers j d e h k c p = let q : e ≡ c = cc in subst (λ (u : End). same_answer d u ≡ true) q h

pub remove_answers : (j : Arguments) (d : End) (s : Stage) → j.kind ≡ remove → Answers j d s
remove_answers j d s r k = let p : add ≡ remove = sym k ∙ r in let z : ◌≡◌ {A = ℕ} 0 1 = cc in absurd (omega arith)

-- A whole job, run to a stage, has ended so.
abbrev pub Says : Arguments → Stage → Stage → Type 0
Says j t s = (d : End) × (t ≡ ended d) × Answers j d s

module _ (J : ℕ → Arguments) where
  unfoldable pub serial : Zone → List ℕ → Zone
  serial z [] = z
  serial z (i ∷ o) = serial (whole (J i) z).zone o

  -- In the order each add has the answer that it has in the list, where the jobs stand at the stages f.
  unfoldable pub Agree : (ℕ → Stage) → Zone → List ℕ → Type 0
  Agree f z [] = Unit
  Agree f z (i ∷ o) = Says (J i) (whole (J i) z).stage (f i) × Agree f (whole (J i) z).zone o

  pub form_serial : (z : Zone) (o : List ℕ) → Form z → Form (serial z o)
  unfolding serial
  form_serial z [] g = g
  form_serial z (i ∷ o) g = form_serial (whole (J i) z).zone o (form_whole (J i) z g)

  pub serial_append : (z : Zone) (o q : List ℕ) → serial z (o ++ q) ≡ serial (serial z o) q
  unfolding serial
  serial_append z [] q = refl
  serial_append z (i ∷ o) q = serial_append (whole (J i) z).zone o q

  pub agree_append : (f : ℕ → Stage) (z : Zone) (o q : List ℕ) → Agree f z o → Agree f (serial z o) q → Agree f z (o ++ q)
  unfolding serial Agree
  agree_append f z [] q a b = b
  agree_append f z (i ∷ o) q a b = (a.0, agree_append f (whole (J i) z).zone o q a.1 b)

  -- The stages count only for the jobs that stand in the order.
  pub agree_ext : (f g : ℕ → Stage) (z : Zone) (o : List ℕ) → ((i : ℕ) → In i o → (d : End) → Answers (J i) d (f i) → Answers (J i) d (g i)) → Agree f z o → Agree g z o
  unfolding Agree
  agree_ext f g z [] h a = tt
  agree_ext f g z (i ∷ o) h a =
      ((a.0.0, a.0.1, h i (inl refl) a.0.0 a.0.2), agree_ext f g (whole (J i) z).zone o (λ k q. h k (inr q)) a.1)

pub times_append : (x : ℕ) (o q : List ℕ) → times x (o ++ q) ≡ times x o + times x q
unfolding times
times_append x [] q = omega arith
times_append x (i ∷ o) q = let e : times x (o ++ q) ≡ times x o + times x q = times_append x o q in omega arith

pub times_in : (i : ℕ) (o : List ℕ) → In i o → 0 < times i o
unfolding times
times_in i [] e = absurd e
times_in i (k ∷ o) (inl e) = let r : eqb i k ≡ true = eq-eqb i k (sym e) in rw r (omega arith)
times_in i (k ∷ o) (inr e) = let r : 0 < times i o = times_in i o e in omega arith

pub times_some : (i : ℕ) (o : List ℕ) → 0 < times i o → In i o
unfolding times
times_some i [] h = absurd (omega arith)
times_some i (k ∷ o) h = go (ℕ_discrete k i) (times_some i o)
  where
    go : Dec (k ≡ i) → (0 < times i o → In i o) → (k ≡ i) ⊎ In i o
    go (yes e) f = inl e
    go (no n) f =
        let e : ◌≡◌ {A = ℕ} (cond (eqb i k) 1 0) 0 = ap (λ (b : Bool). cond b 1 0) (ne_eqb i k (λ q. n (sym q))) in
        inr (f (omega arith))

pub in_append : (x : ℕ) (o q : List ℕ) → In x (o ++ q) → In x o ⊎ In x q
in_append x [] q h = inr h
in_append x (i ∷ o) q (inl e) = inl (inl e)
in_append x (i ∷ o) q (inr h) = on (in_append x o q h)
  where
    on : In x o ⊎ In x q → ((i ≡ x) ⊎ In x o) ⊎ In x q
    on (inl p) = inl (inr p)
    on (inr p) = inr p

in_left : (x : ℕ) (o q : List ℕ) → In x o → In x (o ++ q)
in_left x [] q h = absurd h
in_left x (i ∷ o) q (inl e) = inl e
in_left x (i ∷ o) q (inr h) = inr (in_left x o q h)

in_right : (x : ℕ) (o q : List ℕ) → In x q → In x (o ++ q)
in_right x [] q h = h
in_right x (i ∷ o) q h = inr (in_right x o q h)

pub before_left : (x y : ℕ) (o q : List ℕ) → Before x y o → Before x y (o ++ q)
before_left x y [] q h = absurd h
before_left x y (i ∷ o) q (inl h) = inl (h.0, in_left y o q h.1)
before_left x y (i ∷ o) q (inr h) = inr (before_left x y o q h)

pub before_cross : (x y : ℕ) (o q : List ℕ) → In x o → In y q → Before x y (o ++ q)
before_cross x y [] q a b = absurd a
before_cross x y (i ∷ o) q (inl e) b = inl (e, in_right y o q b)
before_cross x y (i ∷ o) q (inr a) b = inr (before_cross x y o q a b)
