-- The laws of putting a rank in its place among others, a turn of the loop and its end. Assumes nothing.
use mathlib.Core.Path.{◌≡◌, sym, ◌∙◌, ap}
use mathlib.Core.Bool.{true, false}
use mathlib.Core.List.{List, [], ◌∷◌, ◌++◌, append_assoc, append-nil}
use Prim.Native.Nat.{ℕ, suc, ◌+◌, ◌≤◌, ◌<◌}
use native.Mathlib.Numerals.{add-one}
use native.Mathlib.Omega.{arith}
use lib.ListN.{length, get_or, take, drop, set, length-set, length-append, length-drop, drop_of_length-le}
use lib.Seq.{drop-cons, take-suc, take-suc-set, drop-set-lt, take_all, take_at, set-append_seam}
use Rattle.lease.specs.declared.Rank.{Rank}
use Rattle.lease.specs.Lease.{ranks_before}
use Rattle.leasetable.specs.Folds.{placed_rank, inserted, no_rank}

-- where the loop stands at i: the ranks passed, and what is left put among the others
abbrev pub at : List Rank → Rank → ℕ → List Rank
at l c i = take i l ++ placed_rank c (drop i l)

placed_rank_first : (c y : Rank) (ys : List Rank) → ranks_before c y ≡ true → placed_rank c (y ∷ ys) ≡ c ∷ placed_rank y ys
unfolding placed_rank
placed_rank_first c y ys e = rw e

placed_rank_later : (c y : Rank) (ys : List Rank) → ranks_before c y ≡ false → placed_rank c (y ∷ ys) ≡ y ∷ placed_rank c ys
unfolding placed_rank
placed_rank_later c y ys e = rw e

module _ (l : List Rank) (c : Rank) (i : ℕ) (h : i < length l) where
  abbrev met : Rank
  met = get_or l i no_rank

  abbrev behind : List Rank
  behind = drop (suc i) l

  -- the rank that is left comes before the one it meets, and the two are exchanged
  pub place_swaps : ranks_before c met ≡ true → at l c i ≡ at (set l i c) met (i + 1)
  place_swaps e =
      let j : i < suc i = omega arith in
      rw add-one
      (ap (λ (t : List Rank). take i l ++ placed_rank c t) (drop-cons l i no_rank h)
      ∙ ap (λ (t : List Rank). take i l ++ t) (placed_rank_first c met behind e)
      ∙ sym (append_assoc (take i l) (c ∷ []) (placed_rank met behind))
      ∙ ap (λ (t : List Rank). t ++ placed_rank met behind) (sym (take-suc-set l i c h))
      ∙ ap (λ (t : List Rank). take (suc i) (set l i c) ++ placed_rank met t) (sym (drop-set-lt (suc i) l i c j)))

  -- it does not, and goes on
  pub place_goes_on : ranks_before c met ≡ false → at l c i ≡ at l c (i + 1)
  place_goes_on e =
      rw add-one
      (ap (λ (t : List Rank). take i l ++ placed_rank c t) (drop-cons l i no_rank h)
      ∙ ap (λ (t : List Rank). take i l ++ t) (placed_rank_later c met behind e)
      ∙ sym (append_assoc (take i l) (met ∷ []) (placed_rank c behind))
      ∙ ap (λ (t : List Rank). t ++ placed_rank c behind) (sym (take-suc l i no_rank h)))

-- ---- the end: l are the first n of p ranks after the loop, and c is the rank that is left
module _ (p n i : ℕ) (ranks l : List Rank) (e c : Rank) (f : placed_rank e (take n ranks) ≡ at l c i) (g : length l ≡ n) (h : length ranks ≡ p) (k : n ≤ i) where
  placed_is : placed_rank e (take n ranks) ≡ l ++ (c ∷ [])
  unfolding placed_rank
  placed_is =
      let m : length l ≤ i = omega arith in
      f ∙ ap (λ (t : List Rank). t ++ placed_rank c (drop i l)) (take_all i l m) ∙ ap (λ (t : List Rank). l ++ placed_rank c t) (drop_of_length-le l m)

  -- with room, it goes behind the others
  pub place_keeps : n < p → set (l ++ drop n ranks) n c ≡ inserted p n e ranks
  unfolding inserted
  place_keeps r =
      let m : n < length ranks = omega arith in
      let y = get_or ranks n no_rank in
      let ys = drop (suc n) ranks in
      let q : set (l ++ drop n ranks) n c ≡ (l ++ (c ∷ [])) ++ ys =
      ap (λ (t : List Rank). set (l ++ t) n c) (drop-cons ranks n no_rank m)
      ∙ ap (λ (j : ℕ). set (l ++ (y ∷ ys)) j c) (sym g)
      ∙ set-append_seam l y ys c
      ∙ sym (append_assoc l (c ∷ []) ys) in
      let s : length (set (l ++ drop n ranks) n c) ≤ p = simp (length-set, length-append, length-drop) (omega arith) in
      rw (add-one, placed_is, ← q) (sym (take_all p (set (l ++ drop n ranks) n c) s))

  -- without, it is dropped
  pub place_drops : p ≤ n → n ≤ p → l ++ drop n ranks ≡ inserted p n e ranks
  unfolding inserted
  place_drops r s =
      let m : length ranks ≤ n = omega arith in
      let w : length l ≡ p = omega arith in
      ap (λ (t : List Rank). l ++ t) (drop_of_length-le ranks m) ∙ append-nil l
      ∙ sym (rw (placed_is, append_assoc) (take_at l (c ∷ drop (n + 1) ranks) p w))
