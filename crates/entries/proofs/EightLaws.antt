-- The eight places of a list read one after the other, each by its own number: those behind the first n hold z. Assumes nothing.
use mathlib.Core.Path.{◌≡◌, refl, ap, ◌∙◌}
use mathlib.Core.Bool.{Bool, true, false, cond}
use mathlib.Core.List.{List, [], ◌∷◌, ◌++◌}
use Prim.Native.Nat.{ℕ, suc, ◌+◌, ◌-◌, ◌≤◌}
use native.Mathlib.Omega.{arith}
use lib.Dec.{ltb}
use lib.ListN.{length, take, get_or, replicate}
use lib.Seq.{length-take-le}
use borrow.Author.Tests.{ltb-true, ltb-false}
use Rattle.entries.specs.Entries.{filled}

module _ {E : Type 0} (z : E) where
  unfoldable kept : ℕ → ℕ → List E → List E
  kept i n [] = []
  kept i n (e ∷ l) = cond (ltb i n) e z ∷ kept (suc i) n l

  kept_is : (i n : ℕ) (l : List E) → n ≤ i + length l → kept i n l ≡ take (n - i) l ++ replicate (length l - (n - i)) z
  unfolding kept
  kept_is i n [] b =
      let e : n - i ≡ 0 = omega arith in
      rw e
  kept_is i n (x ∷ l) b = go (ltb i n) refl (kept_is (suc i) n l (omega arith))
    where
      go : (c : Bool) → ltb i n ≡ c → kept (suc i) n l ≡ take (n - suc i) l ++ replicate (length l - (n - suc i)) z
          → cond c x z ∷ kept (suc i) n l ≡ take (n - i) (x ∷ l) ++ replicate (suc (length l) - (n - i)) z
      go true q m =
          let h = ltb-true i n q in
          let e : n - i ≡ suc (n - suc i) = omega arith in
          let f : suc (length l) - suc (n - suc i) ≡ length l - (n - suc i) = omega arith in
          rw (e, f) (ap (λ (r : List E). x ∷ r) m)
      go false q m =
          let h = ltb-false i n q in
          let e : n - i ≡ 0 = omega arith in
          let f : n - suc i ≡ 0 = omega arith in
          let g : suc (length l) - 0 ≡ suc (length l) = omega arith in
          let o : length l - 0 ≡ length l = omega arith in
          let r : kept (suc i) n l ≡ replicate (length l) z = rw (f, o) at m in
          rw (e, g) (ap (λ (t : List E). z ∷ t) r)

  pub eight : (l : List E) (n : ℕ) (d : E) → length l ≡ 8 → n ≤ 8 →
      (cond (ltb 0 n) (get_or l 0 d) z ∷ cond (ltb 1 n) (get_or l 1 d) z ∷ cond (ltb 2 n) (get_or l 2 d) z ∷ cond (ltb 3 n) (get_or l 3 d) z ∷
      cond (ltb 4 n) (get_or l 4 d) z ∷ cond (ltb 5 n) (get_or l 5 d) z ∷ cond (ltb 6 n) (get_or l 6 d) z ∷ cond (ltb 7 n) (get_or l 7 d) z ∷ []) ≡ filled z (take n l)
  unfolding kept
  eight [] n d h b = absurd (omega arith)
  eight (a₀ ∷ []) n d h b = absurd (omega arith)
  eight (a₀ ∷ a₁ ∷ []) n d h b = absurd (omega arith)
  eight (a₀ ∷ a₁ ∷ a₂ ∷ []) n d h b = absurd (omega arith)
  eight (a₀ ∷ a₁ ∷ a₂ ∷ a₃ ∷ []) n d h b = absurd (omega arith)
  eight (a₀ ∷ a₁ ∷ a₂ ∷ a₃ ∷ a₄ ∷ []) n d h b = absurd (omega arith)
  eight (a₀ ∷ a₁ ∷ a₂ ∷ a₃ ∷ a₄ ∷ a₅ ∷ []) n d h b = absurd (omega arith)
  eight (a₀ ∷ a₁ ∷ a₂ ∷ a₃ ∷ a₄ ∷ a₅ ∷ a₆ ∷ []) n d h b = absurd (omega arith)
  eight (a₀ ∷ a₁ ∷ a₂ ∷ a₃ ∷ a₄ ∷ a₅ ∷ a₆ ∷ a₇ ∷ []) n d h b =
      let l = a₀ ∷ a₁ ∷ a₂ ∷ a₃ ∷ a₄ ∷ a₅ ∷ a₆ ∷ a₇ ∷ [] in
      let e : n - 0 ≡ n = omega arith in
      let f : length (take n l) ≡ n = length-take-le n l b in
      kept_is 0 n l b ∙ rw (e, f)
  eight (a₀ ∷ a₁ ∷ a₂ ∷ a₃ ∷ a₄ ∷ a₅ ∷ a₆ ∷ a₇ ∷ a₈ ∷ l) n d h b = absurd (omega arith)
