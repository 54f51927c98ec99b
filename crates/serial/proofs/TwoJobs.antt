-- Orders of two jobs that are not left out. Assumes nothing.
use mathlib.Core.Path.{◌≡◌, refl, sym, ◌∙◌, ap}
use mathlib.Core.Bool.{false, true≢false}
use mathlib.Core.List.{List, [], ◌∷◌}
use mathlib.Core.Logic.{◌⊎◌, inl, inr}
use mathlib.Core.Option.{some}
use Prim.Native.Nat.{ℕ, zero, suc}
use native.Mathlib.Omega.{arith}
use lib.ListN.{get_elem?}
use Rattle.update.specs.Rules.{Zone}
use Rattle.update.proofs.ZoneLaws.{some≢none}
use Rattle.job.specs.Jobs.{Arguments, End}
use Rattle.serial.specs.Order.{is_left_out, times, StandsOnce, InTurn, nobody, next, Explains}

module _ (a b : Arguments) (d e : End) where
  abbrev Turns : Zone → List ℕ → Zone → Type 0
  Turns = InTurn (a ∷ b ∷ []) (d ∷ e ∷ [])

  -- one of them, and none
  no_more : {x z : Zone} {o : List ℕ} → Turns x o z → times 0 o ≡ 0 → times 1 o ≡ 0 → o ≡ []
  unfolding times
  no_more nobody h g = refl
  no_more (next zero j c u p q m v t) h g = absurd (omega arith)
  no_more (next (suc zero) j c u p q m v t) h g = absurd (omega arith)
  no_more (next (suc (suc i)) j c u p q m v t) h g = absurd (some≢none (sym p))

  just_first : {x z : Zone} {o : List ℕ} → Turns x o z → times 0 o ≡ 1 → times 1 o ≡ 0 → o ≡ 0 ∷ []
  unfolding times
  just_first nobody h g = absurd (omega arith)
  just_first (next zero j c u p q m v t) h g = ap (λ (o : List ℕ). 0 ∷ o) (no_more t (omega arith) (omega arith))
  just_first (next (suc zero) j c u p q m v t) h g = absurd (omega arith)
  just_first (next (suc (suc i)) j c u p q m v t) h g = absurd (some≢none (sym p))

  just_second : {x z : Zone} {o : List ℕ} → Turns x o z → times 0 o ≡ 0 → times 1 o ≡ 1 → o ≡ 1 ∷ []
  unfolding times
  just_second nobody h g = absurd (omega arith)
  just_second (next zero j c u p q m v t) h g = absurd (omega arith)
  just_second (next (suc zero) j c u p q m v t) h g = ap (λ (o : List ℕ). 1 ∷ o) (no_more t (omega arith) (omega arith))
  just_second (next (suc (suc i)) j c u p q m v t) h g = absurd (some≢none (sym p))

  -- There are two orders in which both stand.
  pub two_orders : {x z : Zone} {o : List ℕ} → Turns x o z → StandsOnce 0 o → StandsOnce 1 o → (o ≡ 0 ∷ 1 ∷ []) ⊎ (o ≡ 1 ∷ 0 ∷ [])
  unfolding times
  two_orders nobody h g = absurd (omega arith)
  two_orders (next zero j c u p q m v t) h g = inl (ap (λ (o : List ℕ). 0 ∷ o) (just_second t (omega arith) (omega arith)))
  two_orders (next (suc zero) j c u p q m v t) h g = inr (ap (λ (o : List ℕ). 1 ∷ o) (just_first t (omega arith) (omega arith)))
  two_orders (next (suc (suc i)) j c u p q m v t) h g = absurd (some≢none (sym p))

  -- Neither of them is left out, so an order in which both stand explains where it leads.
  module _ (dn : is_left_out d ≡ false) (en : is_left_out e ≡ false) where
    neither : (i : ℕ) (c : End) → get_elem? (d ∷ e ∷ []) i ≡ some c → is_left_out c ≡ false
    neither zero c p = let q : d ≡ c = cc in ap is_left_out (sym q) ∙ dn
    neither (suc zero) c p = let q : e ≡ c = cc in ap is_left_out (sym q) ∙ en
    neither (suc (suc i)) c p = absurd (some≢none (sym p))

    pub two_explain : {x z : Zone} {o : List ℕ} → Turns x o z → StandsOnce 0 o → StandsOnce 1 o → Explains (a ∷ b ∷ []) (d ∷ e ∷ []) x z o
    two_explain {o = o} t h g = record { once = once; not_at_all = λ i c p q. absurd (true≢false (sym q ∙ neither i c p)); in_turn = t }
      where
        once : (i : ℕ) (c : End) → get_elem? (d ∷ e ∷ []) i ≡ some c → is_left_out c ≡ false → StandsOnce i o
        once zero c p q = h
        once (suc zero) c p q = g
        once (suc (suc i)) c p q = absurd (some≢none (sym p))

    pub of_two : {x z : Zone} {o : List ℕ} → Explains (a ∷ b ∷ []) (d ∷ e ∷ []) x z o → (o ≡ 0 ∷ 1 ∷ []) ⊎ (o ≡ 1 ∷ 0 ∷ [])
    of_two x = two_orders x.in_turn (x.once 0 d refl dn) (x.once 1 e refl en)
