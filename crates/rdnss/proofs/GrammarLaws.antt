-- The walk over an area says what the grammar says. Assumes nothing.
use mathlib.Core.Path.{◌≡◌, refl, sym, ap, subst, ◌∙◌}
use mathlib.Core.Bool.{true}
use mathlib.Core.List.{List, [], ◌∷◌, ◌++◌}
use Prim.Native.Nat.{ℕ, zero, suc, ◌+◌, ◌*◌, ◌≤◌, ◌<◌}
use native.Mathlib.Omega.{arith}
use lib.ListN.{length, take, drop, length-append, length-drop, take-append-drop}
use lib.Seq.{take_at, drop_at, length-take-le}
use Rattle.rdnss.specs.Area.{is_whole, options}
use Rattle.rdnss.specs.Grammar.{Option, Area, nothing, option, WalkAgrees}
use Rattle.rdnss.proofs.AreaLaws.{whole_skip, options_skip, whole_first, options_end}

area_whole : (area : List ℕ) (found : List (List ℕ)) → Area area found → is_whole 0 area ≡ true
unfolding is_whole
area_whole _ _ nothing = refl
area_whole _ _ (option {kind} {n} {value} {rest} {others} o r) =
    whole_skip (6 + 8 * n) (value ++ rest) (omega (arith, o.size, length-append value rest))
    ∙ ap (is_whole 0) (drop_at value rest (6 + 8 * n) o.size)
    ∙ area_whole rest others r

area_found : (area : List ℕ) (found : List (List ℕ)) → Area area found → options 0 area ≡ found
unfolding options
area_found _ _ nothing = refl
area_found _ _ (option {kind} {n} {value} {rest} {others} o r) =
    let t : take (6 + 8 * n) (value ++ rest) ≡ value = take_at value rest (6 + 8 * n) o.size in
    let d : options (6 + 8 * n) (value ++ rest) ≡ others =
    options_skip (6 + 8 * n) (value ++ rest) (omega (arith, o.size, length-append value rest))
    ∙ ap (options 0) (drop_at value rest (6 + 8 * n) o.size)
    ∙ area_found rest others r in
    ap (λ (v : List ℕ). (kind ∷ suc n ∷ v) ∷ options (6 + 8 * n) (value ++ rest)) t ∙ ap (λ (os : List (List ℕ)). (kind ∷ suc n ∷ value) ∷ os) d

-- an option at the front, if shorter areas are read so
reads_first : (kind n : ℕ) (s : List ℕ) → is_whole 0 (kind ∷ suc n ∷ s) ≡ true → (is_whole 0 (drop (6 + 8 * n) s) ≡ true → Area (drop (6 + 8 * n) s) (options 0 (drop (6 + 8 * n) s)))
    → Area (kind ∷ suc n ∷ s) (options 0 (kind ∷ suc n ∷ s))
unfolding is_whole options
reads_first kind n s h ih =
    let p = whole_first (kind ∷ suc n ∷ s) (omega arith) h in
    let f : 6 + 8 * n ≤ length s = omega (arith, p.1) in
    let o : Option kind n (take (6 + 8 * n) s) = record { size = length-take-le (6 + 8 * n) s f } in
    let r = ih (sym (whole_skip (6 + 8 * n) s f) ∙ h) in
    let a : Area (kind ∷ suc n ∷ (take (6 + 8 * n) s ++ drop (6 + 8 * n) s)) ((kind ∷ suc n ∷ take (6 + 8 * n) s) ∷ options 0 (drop (6 + 8 * n) s)) = option o r in
    let b : Area (kind ∷ suc n ∷ s) ((kind ∷ suc n ∷ take (6 + 8 * n) s) ∷ options 0 (drop (6 + 8 * n) s)) =
    subst (λ (t : List ℕ). Area (kind ∷ suc n ∷ t) ((kind ∷ suc n ∷ take (6 + 8 * n) s) ∷ options 0 (drop (6 + 8 * n) s))) (take-append-drop (6 + 8 * n) s) a in
    subst (λ (os : List (List ℕ)). Area (kind ∷ suc n ∷ s) ((kind ∷ suc n ∷ take (6 + 8 * n) s) ∷ os)) (sym (options_skip (6 + 8 * n) s f)) b

reads_below : (m : ℕ) (s : List ℕ) → length s < m → is_whole 0 s ≡ true → Area s (options 0 s)
reads_below zero s k h = absurd (omega arith)
reads_below (suc m) [] k h = subst (Area []) (sym options_end) nothing
reads_below (suc m) (t ∷ []) k h = absurd (omega (arith, (whole_first (t ∷ []) (omega arith) h).0))
reads_below (suc m) (t ∷ zero ∷ s) k h = absurd (omega (arith, (whole_first (t ∷ zero ∷ s) (omega arith) h).0))
reads_below (suc m) (t ∷ suc n ∷ s) k h = reads_first t n s h (λ g. reads_below m (drop (6 + 8 * n) s) (omega (arith, length-drop (6 + 8 * n) s)) g)

pub walk_agrees : WalkAgrees
walk_agrees = record { whole = area_whole; found = area_found; reads = λ s h. reads_below (suc (length s)) s (omega arith) h }
