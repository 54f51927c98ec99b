-- The law of octets that are looked at one by one, whether they are zero. Assumes nothing.
use mathlib.Core.Path.{◌≡◌, sym, ◌∙◌}
use mathlib.Core.Bool.{Bool, ◌&&◌, and-true, and_assoc}
use mathlib.Core.List.{List, [], ◌∷◌}
use Prim.Native.Nat.{ℕ}
use lib.Dec.{eqb}
use Rattle.std.specs.List.{fold}
use Rattle.lease.specs.Lease.{all_zero}

pub zero_fold : (b : Bool) (s : List ℕ) → fold (λ zero x. zero && eqb x 0) b s ≡ (b && all_zero s)
unfolding all_zero
zero_fold b [] = sym (and-true b)
zero_fold b (x ∷ xs) = zero_fold (b && eqb x 0) xs ∙ and_assoc b (eqb x 0) (all_zero xs)
