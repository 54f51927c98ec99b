-- Whether a DHCID holds the name that stands at a place. Assumes nothing.
use mathlib.Core.Path.{◌≡◌}
use mathlib.Core.Bool.{false, cond}
use mathlib.Core.Option.{none, some}
use Prim.Native.Nat.{ℕ}
use lib.Dec.{eqb}
use borrow.Author.Tests.{eq-eqb, ne_eqb}
use Rattle.octets.specs.Compare.{same_octets}
use Rattle.octets.specs.Count.{Octets}
use Rattle.update.specs.Rules.{held_by}

module _ (kind : ℕ) (held d : Octets) where
  pub held_static : kind ≡ 1 → held_by d (cond (eqb kind 1) none (some held)) ≡ false
  unfolding held_by
  held_static k = simp (eq-eqb kind 1 k)

  pub held_other : ¬ (kind ≡ 1) → held_by d (cond (eqb kind 1) none (some held)) ≡ same_octets held d
  unfolding held_by
  held_other k = simp (ne_eqb kind 1 k)
