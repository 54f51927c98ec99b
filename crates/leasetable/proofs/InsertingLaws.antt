-- The laws of putting a rank in its place, by the place where the loop stands: what it passed, and what is left to insert. Assumes nothing.
use mathlib.Core.Path.{◌≡◌, refl, sym, ◌∙◌, ap}
use mathlib.Core.Bool.{true, false}
use mathlib.Core.Logic.{◌⊎◌, inl, inr}
use mathlib.Core.List.{List, [], ◌∷◌, ◌++◌, append_assoc}
use Prim.Native.Nat.{ℕ, ◌+◌, ◌≤◌, ◌<◌}
use native.Mathlib.Numerals.{add-one}
use native.Mathlib.Omega.{arith}
use lib.ListN.{length, get_or, take, drop, set, length-take, length-set, drop_of_length-le}
use lib.Seq.{drop-cons, take-suc, take-suc-set, take-set-lt, drop-set-lt, get_or-take, take_all, take_at, set_split}
use Rattle.lease.specs.declared.Rank.{Rank}
use Rattle.lease.specs.Lease.{ranks_before}
use Rattle.leasetable.specs.Folds.{placed_rank, inserted, no_rank}

-- `⊎_elim` with the sum first, so that what each case has is known where the case is proved
pub either : {A B C : Type 0} → A ⊎ B → (A → C) → (B → C) → C
either (inl a) f g = f a
either (inr b) f g = g b

-- where the loop stands at i: the places passed, and what is left to insert into the others
abbrev at : ℕ → List Rank → Rank → ℕ → List Rank
at n l c i = take i l ++ placed_rank c (drop i (take n l))

-- and all that stands behind
abbrev whole : ℕ → List Rank → Rank → ℕ → List Rank
whole n l c i = at n l c i ++ drop (n + 1) l

placed_rank_first : (c y : Rank) (ys : List Rank) → ranks_before c y ≡ true → placed_rank c (y ∷ ys) ≡ c ∷ placed_rank y ys
unfolding placed_rank
placed_rank_first c y ys e = rw e

placed_rank_later : (c y : Rank) (ys : List Rank) → ranks_before c y ≡ false → placed_rank c (y ∷ ys) ≡ y ∷ placed_rank c ys
unfolding placed_rank
placed_rank_later c y ys e = rw e

rest_is : (n : ℕ) (l : List Rank) (i : ℕ) (d : Rank) → i < n → n ≤ length l → drop i (take n l) ≡ get_or l i d ∷ drop (i + 1) (take n l)
rest_is n l i d h g =
    let k : i < length (take n l) = simp length-take (omega arith) in
    drop-cons (take n l) i d k ∙ rw (get_or-take n l i d, ← add-one)

goes_on : (n : ℕ) (l : List Rank) (c : Rank) (i : ℕ) (d : Rank) → i < n → n ≤ length l → ranks_before c (get_or l i d) ≡ false → at n l c i ≡ at n l c (i + 1)
goes_on n l c i d h g e =
    let k : i < length l = omega arith in
    ap (λ (t : List Rank). take i l ++ placed_rank c t) (rest_is n l i d h g)
    ∙ ap (λ (t : List Rank). take i l ++ t) (placed_rank_later c (get_or l i d) (drop (i + 1) (take n l)) e)
    ∙ sym (append_assoc (take i l) (get_or l i d ∷ []) (placed_rank c (drop (i + 1) (take n l))))
    ∙ ap (λ (t : List Rank). t ++ placed_rank c (drop (i + 1) (take n l))) (sym (take-suc l i d k) ∙ ap (λ (m : ℕ). take m l) (sym (add-one i)))

swaps : (n : ℕ) (l : List Rank) (c : Rank) (i : ℕ) (d : Rank) → i < n → n ≤ length l → ranks_before c (get_or l i d) ≡ true → at n l c i ≡ at n (set l i c) (get_or l i d) (i + 1)
swaps n l c i d h g e =
    let k : i < length l = omega arith in
    let j : i < i + 1 = omega arith in
    let R = drop (i + 1) (take n l) in
    ap (λ (t : List Rank). take i l ++ placed_rank c t) (rest_is n l i d h g)
    ∙ ap (λ (t : List Rank). take i l ++ t) (placed_rank_first c (get_or l i d) R e)
    ∙ sym (append_assoc (take i l) (c ∷ []) (placed_rank (get_or l i d) R))
    ∙ ap (λ (t : List Rank). t ++ placed_rank (get_or l i d) R) (sym (take-suc-set l i c k) ∙ ap (λ (m : ℕ). take m (set l i c)) (sym (add-one i)))
    ∙ ap (λ (t : List Rank). take (i + 1) (set l i c) ++ placed_rank (get_or l i d) t) (sym (ap (drop (i + 1)) (take-set-lt n l i c h) ∙ drop-set-lt (i + 1) (take n l) i c j))

ends : (n : ℕ) (l : List Rank) (c : Rank) → whole n l c n ≡ take n l ++ (c ∷ drop (n + 1) l)
unfolding placed_rank
ends n l c =
    let h : length (take n l) ≤ n = simp length-take (omega arith) in
    ap (λ (t : List Rank). (take n l ++ placed_rank c t) ++ drop (n + 1) l) (drop_of_length-le (take n l) h)
    ∙ append_assoc (take n l) (c ∷ []) (drop (n + 1) l)

-- ---- the loop: of a rank c₀ that goes among the first n of p places, c is left at place i, and l has the ranks so far
pub record Inserting (p n : ℕ) (l₀ : List Rank) (c₀ : Rank) (l : List Rank) (c : Rank) (i : ℕ) : Type 0 where
  pub passed : i ≤ n
  pub room : n ≤ p
  pub places : length l ≡ p
  pub rest : inserted p n c₀ l₀ ≡ take p (whole n l c i)

pub insert_start : {p n : ℕ} {l : List Rank} {c : Rank} → n ≤ p → length l ≡ p → Inserting p n l c l c 0
unfolding inserted
insert_start h g = record { passed = omega arith; room = h; places = g; rest = refl }

module _ {p n : ℕ} {l₀ : List Rank} {c₀ : Rank} {l : List Rank} {c : Rank} {i : ℕ} (s : Inserting p n l₀ c₀ l c i) where
  -- the rank that is left comes before the one at the place, and the two are exchanged
  pub insert_swaps : {l' : List Rank} {c' : Rank} → i < n → ranks_before c (get_or l i no_rank) ≡ true → l' ≡ set l i c → c' ≡ get_or l i no_rank → Inserting p n l₀ c₀ l' c' (i + 1)
  insert_swaps {c' = d} h e u v =
      let g = s.places in
      let m : n ≤ length l = omega (arith, g, s.room) in
      let k : i < n + 1 = omega arith in
      record {
        passed = omega arith;
        room = s.room;
        places = ap length u ∙ simp length-set g;
        rest = s.rest ∙ ap (take p)
            (ap (λ (t : List Rank). t ++ drop (n + 1) l) (swaps n l c i no_rank h m e)
            ∙ ap (λ (t : List Rank). at n (set l i c) (get_or l i no_rank) (i + 1) ++ t) (sym (drop-set-lt (n + 1) l i c k))
            ∙ sym (ap (λ (t : List Rank). whole n t d (i + 1)) u ∙ ap (λ (t : Rank). whole n (set l i c) t (i + 1)) v));
      }

  -- it does not, and goes on
  pub insert_goes_on : {l' : List Rank} {c' : Rank} → i < n → ranks_before c (get_or l i no_rank) ≡ false → l' ≡ l → c' ≡ c → Inserting p n l₀ c₀ l' c' (i + 1)
  insert_goes_on {c' = d} h e u v =
      let g = s.places in
      let m : n ≤ length l = omega (arith, g, s.room) in
      record {
        passed = omega arith;
        room = s.room;
        places = ap length u ∙ g;
        rest = s.rest ∙ ap (take p)
            (ap (λ (t : List Rank). t ++ drop (n + 1) l) (goes_on n l c i no_rank h m e)
            ∙ sym (ap (λ (t : List Rank). whole n t d (i + 1)) u ∙ ap (λ (t : Rank). whole n l t (i + 1)) v));
      }

  done : n ≤ i → inserted p n c₀ l₀ ≡ take p (take n l ++ (c ∷ drop (n + 1) l))
  done h =
      let e : i ≡ n = omega (arith, s.passed) in
      s.rest ∙ ap (λ (k : ℕ). take p (whole n l c k)) e ∙ ap (take p) (ends n l c)

  -- at the end, with room, the rank that is left goes behind the others
  pub insert_keeps : n ≤ i → n < p → set l n c ≡ inserted p n c₀ l₀
  insert_keeps h r =
      let k : n < length l = omega (arith, s.places) in
      let e : set l n c ≡ take n l ++ (c ∷ drop (n + 1) l) = rw (add-one, set_split l n c k) in
      let m : length (set l n c) ≤ p = simp length-set (omega (arith, s.places)) in
      sym (done h ∙ ap (take p) (sym e) ∙ take_all p (set l n c) m)

  -- without, it is dropped
  pub insert_drops : n ≤ i → p ≤ n → l ≡ inserted p n c₀ l₀
  insert_drops h r =
      let m : length (take n l) ≡ p = simp length-take (omega (arith, s.places, s.room)) in
      let a : length l ≤ n = omega (arith, s.places) in
      sym (done h ∙ take_at (take n l) (c ∷ drop (n + 1) l) p m ∙ take_all n l a)
