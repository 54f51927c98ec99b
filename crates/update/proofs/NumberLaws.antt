-- The numbers of families and of policies. Assumes nothing.
use mathlib.Core.Path.{◌≡◌, refl, ◌∙◌}
use mathlib.Core.Bool.{Bool, true, false, cond, ◌&&◌, and-true, and-false}
use Prim.Native.Nat.{ℕ, ◌≤◌, ◌<◌}
use lib.Dec.{eqb, leb}
use borrow.Author.Tests.{le-leb, lt-leb, eq-eqb, ne_eqb}
use Rattle.octets.proofs.BoolLaws.{and_left}
use Rattle.update.specs.Rules.{keep_others}
use Rattle.update.specs.Meaning.{listed, policy_of}

pub listed_policy : (family policy : ℕ) → 2 < policy → listed family policy ≡ false
unfolding listed
listed_policy family policy h = rw (lt-leb policy 2 h, and-false)

pub listed_four : (family policy : ℕ) → policy ≤ 2 → family ≡ 4 → listed family policy ≡ true
unfolding listed
listed_four family policy h e = rw (le-leb policy 2 h, eq-eqb family 4 e)

pub listed_six : (family policy : ℕ) → policy ≤ 2 → ¬ (family ≡ 4) → listed family policy ≡ eqb family 6
unfolding listed
listed_six family policy h e = rw (le-leb policy 2 h, ne_eqb family 4 e) (go (eqb family 6))
  where
    go : (b : Bool) → (b && true) ≡ b
    go true = refl
    go false = refl

pub policy_zero : policy_of 0 ≡ keep_others
unfolding policy_of
policy_zero = refl

-- policy 0 is listed beside every family that is
pub listed_zero : (f p : ℕ) → listed f p ≡ true → listed f 0 ≡ true
unfolding listed
listed_zero f p h = and-true (cond (eqb f 4) true (eqb f 6)) ∙ and_left (cond (eqb f 4) true (eqb f 6)) (leb p 2) h
