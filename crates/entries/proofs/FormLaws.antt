-- The laws of a list in form, and of what of it has not expired, whatever its entries are about. Assumes nothing.
use mathlib.Core.Path.{◌≡◌, refl, sym, ◌∙◌}
use mathlib.Core.Bool.{Bool, true, false, not, and-false}
use mathlib.Core.List.{List, [], ◌∷◌}
use Prim.Native.Nat.{◌≤◌}
use native.Mathlib.Omega.{arith}
use lib.ListN.{length}
use Rattle.std.specs.List.{list_any}
use Rattle.clock.specs.declared.Moment.{Moment}
use Rattle.entries.specs.Entries.{Kind, places, are_moments, is_about, each, distinct, is_orderly, is_expired, unexpired}
use Rattle.entries.specs.Places.{Holder, held_in}
use Rattle.entries.proofs.EntryLaws.{keep_length}
use Rattle.entries.proofs.PlaceLaws.{take_short}
use Rattle.entries.proofs.LibraryLaws.{any_one}

module _ {K E : Type 0} (kind : Kind K E) where
  -- whether the moments of an entry are such
  abbrev pub is_timed : E → Bool
  is_timed e = are_moments (kind.moments e)

  -- an orderly list by its first entry: what stands behind it holds no such key, and it has moments
  module _ (e : E) (l : List E) where
    pub twice : list_any (is_about kind (kind.about e)) l ≡ true → is_orderly kind (e ∷ l) ≡ false
    unfolding distinct
    twice t = rw (sym (any_one (is_about kind (kind.about e)) l) ∙ t)

    pub no_moments : is_timed e ≡ false → is_orderly kind (e ∷ l) ≡ false
    unfolding each
    no_moments t = rw (t, and-false)

    pub once : list_any (is_about kind (kind.about e)) l ≡ false → is_timed e ≡ true → is_orderly kind (e ∷ l) ≡ is_orderly kind l
    unfolding distinct each
    once t m = rw (sym (any_one (is_about kind (kind.about e)) l) ∙ t, m)

  pub no_more : (l : List E) → length l ≡ 0 → is_orderly kind l ≡ true
  unfolding distinct each
  no_more [] h = refl
  no_more (e ∷ l) h = absurd (omega arith)

  pub unexpired_fits : {R L : Type 0} (h : Holder E R L) (l : L) (clock : Moment) → h.count l ≤ places → length (unexpired kind clock (held_in h l)) ≤ places
  unexpired_fits h l clock o = omega (arith, keep_length (λ e. not (is_expired kind clock e)) (held_in h l), take_short (h.count l) (h.entries l))
