-- The definitions of a list of entries, by the library's words. Assumes nothing.
use mathlib.Core.Path.{◌≡◌, refl, ap, sym, ◌∙◌}
use mathlib.Core.Bool.{Bool, true, false, not, cond, ◌||◌}
use mathlib.Core.List.{List, [], ◌∷◌}
use Prim.Native.Nat.{ℕ, suc, ◌+◌, ◌<◌, ◌≤◌}
use native.Mathlib.Omega.{arith}
use lib.Dec.{ltb}
use lib.ListN.{length}
use borrow.Author.Tests.{ltb-true, ltb-false}
use Rattle.std.specs.Prelude.{Some, None}
use Rattle.std.specs.List.{list_any, position, position_or_len}
use Rattle.entries.specs.Entries.{one_of}
use Rattle.entries.specs.Places.{place}

module _ {E : Type 0} (p : E → Bool) where
  pub any_one : (l : List E) → list_any p l ≡ one_of p l
  unfolding one_of
  any_one [] = refl
  any_one (e ∷ l) = ap (λ (b : Bool). p e || b) (any_one l)

  place_len : (l : List E) → position_or_len p l ≡ place p l
  unfolding place
  place_len [] = refl
  place_len (e ∷ l) = go (p e) (place_len l)
    where
      go : (b : Bool) → position_or_len p l ≡ place p l → cond (not b) (1 + position_or_len p l) 0 ≡ cond b 0 (suc (place p l))
      go true h = refl
      go false h = omega arith

  -- the place of the first entry that passes a test, where there is one
  pub found_place : (l : List E) (k : ℕ) → position p l ≡ Some k → (k ≡ place p l) × (k < length l)
  found_place l k h = go (ltb (position_or_len p l) (length l)) refl h
    where
      go : (b : Bool) → ltb (position_or_len p l) (length l) ≡ b → cond b (Some (position_or_len p l)) None ≡ Some k → (k ≡ place p l) × (k < length l)
      go true q h =
          let e : position_or_len p l ≡ k = cc in
          let f = ltb-true (position_or_len p l) (length l) q in
          (sym e ∙ place_len l, omega arith)
      go false q h = cc

  -- none passes it
  pub no_place : (l : List E) → position p l ≡ None → length l ≤ place p l
  no_place l h = go (ltb (position_or_len p l) (length l)) refl h
    where
      go : (b : Bool) → ltb (position_or_len p l) (length l) ≡ b → cond b (Some (position_or_len p l)) None ≡ None → length l ≤ place p l
      go true q h = cc
      go false q h = omega (arith, ltb-false (position_or_len p l) (length l) q, place_len l)
