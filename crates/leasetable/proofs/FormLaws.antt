-- What the scan of the form says of the whole table, and what a table of that form says of its records. Assumes nothing.
use mathlib.Core.Path.{◌≡◌, refl, ◌∙◌, ap}
use mathlib.Core.Bool.{Bool, true, false, ◌&&◌}
use mathlib.Core.List.{List, [], ◌∷◌, foldl}
use Prim.Native.Nat.{ℕ, ◌<◌}
use lib.ListN.{length}
use lib.Dec.{ltb}
use borrow.Author.Tests.{ltb-true}
use Rattle.octets.proofs.BoolLaws.{and_left, and_right}
use Rattle.lease.specs.declared.Lease.{Lease}
use Rattle.lease.specs.Lease.{well_formed}
use Rattle.leasetable.specs.declared.form.Form.{Form}
use Rattle.leasetable.specs.Table.{count_fits, table_fits, rises_from}
use Rattle.leasetable.specs.Folds.{form_good, form_bad, form_add, form_turn, form_from, form_of}

-- ---- the scan
bad_stays : (t : List Lease) → (foldl form_turn form_bad t).ok ≡ false
bad_stays [] = refl
bad_stays (x ∷ xs) = bad_stays xs

abbrev Law : ℕ → List Lease → Type 0
Law p t = (foldl form_turn (form_good p) t).ok ≡ rises_from p t

step_is : (p : ℕ) (x : Lease) (xs : List Lease) (f : Form) → form_add (form_good p) x ≡ f → (foldl form_turn (form_good p) (x ∷ xs)).ok ≡ (foldl form_turn f xs).ok
step_is p x xs f e = ap (λ (g : Form). (foldl form_turn g xs).ok) e

more : (p : ℕ) (x : Lease) (xs : List Lease) → Law x.address xs → (b : Bool) → ltb p x.address ≡ b → (e : Bool) → well_formed x ≡ e → Law p (x ∷ xs)
unfolding form_add rises_from
more p x xs ih true eb true ee = step_is p x xs (form_good x.address) (simp (eb, ee)) ∙ ih ∙ simp (eb, ee)
more p x xs ih true eb false ee = step_is p x xs form_bad (simp (eb, ee)) ∙ bad_stays xs ∙ simp (eb, ee)
more p x xs ih false eb e ee = step_is p x xs form_bad (simp eb) ∙ bad_stays xs ∙ simp eb

form_law : (p : ℕ) (t : List Lease) → Law p t
unfolding rises_from
form_law p [] = refl
form_law p (x ∷ xs) = more p x xs (form_law x.address xs) (ltb p x.address) refl (well_formed x) refl

-- from the start, the scan says whether the table keeps its form
pub form_whole : (t : List Lease) → (form_of t).ok ≡ table_fits t
unfolding table_fits
form_whole t = go (count_fits (length t))
  where
    go : (b : Bool) → (form_from (record { ok = b; last = 0 }) t).ok ≡ (b && rises_from 0 t)
    go true = form_law 0 t
    go false = refl

-- ---- a table that keeps its form: its first record, and those behind it
module _ (a : ℕ) (x : Lease) (xs : List Lease) (e : rises_from a (x ∷ xs) ≡ true) where
  pub rise_first : a < x.address
  unfolding rises_from
  rise_first = ltb-true a x.address (and_left (ltb a x.address) (well_formed x) (and_left (ltb a x.address && well_formed x) (rises_from x.address xs) e))

  pub rise_form : well_formed x ≡ true
  unfolding rises_from
  rise_form = and_right (ltb a x.address) (well_formed x) (and_left (ltb a x.address && well_formed x) (rises_from x.address xs) e)

  pub rise_rest : rises_from x.address xs ≡ true
  unfolding rises_from
  rise_rest = and_right (ltb a x.address && well_formed x) (rises_from x.address xs) e
