-- The requests by numbers: 1 and 2 for requests A and B, 3 for the first remove request, and any other for the second. Assumes nothing.
use mathlib.Core.Path.{◌≡◌, sym, fun_ext}
use mathlib.Core.Bool.{cond}
use Prim.Native.Nat.{ℕ}
use lib.Dec.{eqb}
use borrow.Author.Tests.{ne_eqb}
use Rattle.dname.specs.declared.name.Name.{Name}
use Rattle.update.specs.Rules as rules
use Rattle.update.specs.Rules.{Update, Outcome, request_a, request_b, remove_address, remove_name}
use Rattle.update.specs.Meaning.{policy_of}

unfoldable pub request_of : ℕ → ℕ → Update → rules.Zone → Outcome
request_of kind policy u z =
    cond (eqb kind 1) (request_a u z) (cond (eqb kind 2) (request_b (policy_of policy) u z) (cond (eqb kind 3) (remove_address u z) (remove_name u z)))

module _ (policy : ℕ) (u : Update) (kind : ℕ) where
  pub is_a_lem : kind ≡ 1 → request_a u ≡ request_of kind policy u
  is_a_lem k = fun_ext (λ z. unfold request_of in rw k)

-- the same of an update about each name
module _ (policy : ℕ) (u : Name → Update) (kind : ℕ) where
  abbrev by_number : Name → rules.Zone → Outcome
  by_number n = request_of kind policy (u n)

  pub is_b_lem : kind ≡ 2 → (λ (n : Name). request_b (policy_of policy) (u n)) ≡ by_number
  is_b_lem k = fun_ext (λ n. fun_ext (λ z. unfold request_of in rw k))

  pub is_first : kind ≡ 3 → (λ (n : Name). remove_address (u n)) ≡ by_number
  is_first k = fun_ext (λ n. fun_ext (λ z. unfold request_of in rw k))

  pub is_second_lem : ¬ (kind ≡ 1) → ¬ (kind ≡ 2) → ¬ (kind ≡ 3) → (λ (n : Name). remove_name (u n)) ≡ by_number
  is_second_lem a b c = fun_ext (λ n. fun_ext (λ z. unfold request_of in sym (rw (ne_eqb kind 1 a, ne_eqb kind 2 b, ne_eqb kind 3 c))))
