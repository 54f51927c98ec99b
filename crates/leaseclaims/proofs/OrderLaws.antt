-- The ranked leases of a table that keeps its form are in order, and are those of the table. Assumes nothing.
use Prim.Native.Nat.{ℕ, zero, suc, ◌≤◌, ◌<◌}
use mathlib.Core.Path.{◌≡◌, refl, sym, subst}
use mathlib.Core.Bool.{Bool, true, false}
use mathlib.Core.List.{List, [], ◌∷◌, foldl}
use mathlib.Core.Logic.{inl, inr}
use native.Mathlib.Omega.{arith}
use lib.Dec.{ltb}
use lib.ListN.{length, get_or}
use borrow.Table.Steps.{cases}
use borrow.Author.Tests.{ltb-true, ltb-false, lt-ltb, le-ltb}
use Rattle.lease.specs.declared.Lease.{Lease}
use Rattle.lease.specs.declared.Rank.{Rank}
use Rattle.lease.specs.Lease.{no_lease, rank_of, ranks_before, well_formed}
use Rattle.leasetable.specs.Table.{rises_from, those, placed, ranked}
use Rattle.leasetable.proofs.FormLaws.{rise_first, rise_form, rise_rest}
use Rattle.leaseclaims.specs.Claims.{In, Behind, Ordered}
use Rattle.leaseclaims.proofs.ListLaws.{true_false, to_not, StandsAt, AllStand}

-- ---- ranking before, in numbers
abbrev Ahead : Rank → Rank → Type 0
Ahead x y = (y.last.0 ≤ x.last.0) × (y.last.0 ≡ x.last.0 → x.address < y.address)

to_ahead : (x y : Rank) → ranks_before x y ≡ true → Ahead x y
unfolding ranks_before
to_ahead x y e =
    cases (ltb y.last.0 x.last.0) (λ s. let l : y.last.0 < x.last.0 = ltb-true _ _ s in (omega arith, λ q. absurd (omega arith)))
    (λ s. cases (ltb x.last.0 y.last.0) (λ t. absurd (true_false (rw (s, t) at e) refl))
    (λ t. cases (ltb x.address y.address) (λ u. (ltb-false x.last.0 y.last.0 t, λ q. ltb-true x.address y.address u))
    (λ u. absurd (true_false (rw (s, t, u) at e) refl))))

from_ahead : (x y : Rank) → Ahead x y → ranks_before x y ≡ true
unfolding ranks_before
from_ahead x y a =
    cases (ltb y.last.0 x.last.0) (λ s. rw s)
    (λ s. let l : x.last.0 ≤ y.last.0 = ltb-false _ _ s in
    let q : y.last.0 ≡ x.last.0 = omega (arith, a.0) in
    rw (s, le-ltb x.last.0 y.last.0 a.0, lt-ltb x.address y.address (a.1 q)))

before_trans : (x y z : Rank) → ranks_before x y ≡ true → ranks_before y z ≡ true → ranks_before x z ≡ true
before_trans x y z p q =
    let a = to_ahead x y p in
    let b = to_ahead y z q in
    from_ahead x z (
      omega (arith, a.0, b.0),
      λ e.
          let e₁ : y.last.0 ≡ x.last.0 = omega (arith, a.0, b.0) in
          let e₂ : z.last.0 ≡ y.last.0 = omega (arith, a.0, b.0) in
          omega (arith, a.1 e₁, b.1 e₂),
    )

-- of two addresses the lower ranks first, or is not ranked first
lower_first : (x z : Rank) → z.address < x.address → ranks_before x z ≡ false → ranks_before z x ≡ true
lower_first x z h e = let n = to_not x z e in from_ahead z x (n.0, λ q. h)

-- ---- order is kept
abbrev Comp : Lease → List Lease → Type 0
Comp x [] = Unit {0}
Comp x (y ∷ ys) = (ranks_before (rank_of x) (rank_of y) ≡ false → ranks_before (rank_of y) (rank_of x) ≡ true) × Comp x ys

behind_comp : (x : Lease) (l : List Lease) → Behind x l → Comp x l
behind_comp x [] b = tt
behind_comp x (y ∷ ys) b = ((λ e. true_false b.0 e), behind_comp x ys b.1)

behind_placed : (x y : Lease) (l : List Lease) → ranks_before (rank_of x) (rank_of y) ≡ true → Behind x l → Behind x (placed y l)
unfolding placed
behind_placed x y [] e b = (e, tt)
behind_placed x y (z ∷ zs) e b = cases (ranks_before (rank_of y) (rank_of z)) (λ t. rw t (e, behind_placed x z zs b.0 b.1)) (λ t. rw t (b.0, behind_placed x y zs e b.1))

behind_all : (x y : Lease) (l : List Lease) → ranks_before (rank_of x) (rank_of y) ≡ true → Behind y l → Behind x l
behind_all x y [] e b = tt
behind_all x y (z ∷ zs) e b = (before_trans (rank_of x) (rank_of y) (rank_of z) e b.0, behind_all x y zs e b.1)

placed_ordered : (x : Lease) (l : List Lease) → Ordered l → Comp x l → Ordered (placed x l)
unfolding placed
placed_ordered x [] o c = (tt, tt)
placed_ordered x (y ∷ ys) o c =
    cases (ranks_before (rank_of x) (rank_of y))
    (λ t. rw t (behind_placed x y ys t (behind_all x y ys t o.0), placed_ordered y ys o.1 (behind_comp y ys o.0)))
    (λ t. rw t (behind_placed y x ys (c.0 t) o.0, placed_ordered x ys o.1 c.1))

-- ---- a rising table
abbrev AtMost : ℕ → List Lease → Type 0
AtMost a [] = Unit {0}
AtMost a (x ∷ xs) = (x.address ≤ a) × AtMost a xs

abbrev Rises : ℕ → List Lease → Type 0
Rises a [] = Unit {0}
Rises a (x ∷ xs) = (a < x.address) × Rises x.address xs

most_comp : (a : ℕ) (x : Lease) (l : List Lease) → a < x.address → AtMost a l → Comp x l
most_comp a x [] h m = tt
most_comp a x (y ∷ ys) h m = (lower_first (rank_of x) (rank_of y) (omega (arith, m.0)), most_comp a x ys h m.1)

most_placed : (a : ℕ) (x : Lease) (l : List Lease) → x.address ≤ a → AtMost a l → AtMost a (placed x l)
unfolding placed
most_placed a x [] h m = (h, tt)
most_placed a x (y ∷ ys) h m = cases (ranks_before (rank_of x) (rank_of y)) (λ t. rw t (h, most_placed a y ys m.0 m.1)) (λ t. rw t (m.0, most_placed a x ys h m.1))

most_more : (a b : ℕ) (l : List Lease) → a ≤ b → AtMost a l → AtMost b l
most_more a b [] h m = tt
most_more a b (x ∷ xs) h m = (omega (arith, m.0), most_more a b xs h m.1)

fold_ordered : (a : ℕ) (l m : List Lease) → Rises a l → AtMost a m → Ordered m → Ordered (foldl (λ ys x. placed x ys) m l)
fold_ordered a [] m r s o = o
fold_ordered a (x ∷ xs) m r s o =
    fold_ordered x.address xs (placed x m) r.1 (most_placed x.address x m (omega arith) (most_more a x.address m (omega (arith, r.0)) s)) (placed_ordered x m o (most_comp a x m r.0 s))

rises_less : (a b : ℕ) (l : List Lease) → a ≤ b → Rises b l → Rises a l
rises_less a b [] h r = tt
rises_less a b (x ∷ xs) h r = (omega (arith, r.0), r.1)

rises_those : (f : Lease → Bool) (a : ℕ) (t : List Lease) → rises_from a t ≡ true → Rises a (those f t)
unfolding those
rises_those f a [] e = tt
rises_those f a (x ∷ xs) e =
    let r = rises_those f x.address xs (rise_rest a x xs e) in
    let h = rise_first a x xs e in
    cases (f x) (λ w. rw w (h, r)) (λ w. rw w (rises_less a x.address (those f xs) (omega arith) r))

pub ranked_ordered : (f : Lease → Bool) (t : List Lease) → rises_from 0 t ≡ true → Ordered (ranked (those f t))
unfolding ranked
ranked_ordered f t e = fold_ordered 0 (those f t) [] (rises_those f 0 t e) tt tt

pub formed_at : (a : ℕ) (t : List Lease) → rises_from a t ≡ true → (i : ℕ) → i < length t → well_formed (get_or t i no_lease) ≡ true
formed_at a [] e i h = absurd (omega arith)
formed_at a (x ∷ xs) e zero h = rise_form a x xs e
formed_at a (x ∷ xs) e (suc i) h = formed_at x.address xs (rise_rest a x xs e) i (omega arith)

-- ---- the ranked are those
in_self : (x : Lease) (l : List Lease) → In x (placed x l)
unfolding placed
in_self x [] = inl refl
in_self x (y ∷ ys) = cases (ranks_before (rank_of x) (rank_of y)) (λ t. rw t (inl refl)) (λ t. rw t (inr (in_self x ys)))

in_placed : (z x : Lease) (l : List Lease) → In z l → In z (placed x l)
unfolding placed
in_placed z x [] h = absurd h
in_placed z x (y ∷ ys) (inl e) = cases (ranks_before (rank_of x) (rank_of y)) (λ t. rw t (inr (subst (λ (v : Lease). In v (placed y ys)) (sym e) (in_self y ys)))) (λ t. rw t (inl e))
in_placed z x (y ∷ ys) (inr h) = cases (ranks_before (rank_of x) (rank_of y)) (λ t. rw t (inr (in_placed z y ys h))) (λ t. rw t (inr (in_placed z x ys h)))

in_kept : (z : Lease) (l m : List Lease) → In z m → In z (foldl (λ ys x. placed x ys) m l)
in_kept z [] m h = h
in_kept z (x ∷ xs) m h = in_kept z xs (placed x m) (in_placed z x m h)

in_fold : (z : Lease) (l m : List Lease) → In z l → In z (foldl (λ ys x. placed x ys) m l)
in_fold z [] m h = absurd h
in_fold z (x ∷ xs) m (inl e) = in_kept z xs (placed x m) (subst (λ (v : Lease). In v (placed x m)) (sym e) (in_self x m))
in_fold z (x ∷ xs) m (inr h) = in_fold z xs (placed x m) h

in_those : (f : Lease → Bool) (t : List Lease) (i : ℕ) → i < length t → f (get_or t i no_lease) ≡ true → In (get_or t i no_lease) (those f t)
unfolding those
in_those f [] i h w = absurd (omega arith)
in_those f (x ∷ xs) zero h w = rw w (inl refl)
in_those f (x ∷ xs) (suc i) h w = cases (f x) (λ t. rw t (inr (in_those f xs i (omega arith) w))) (λ t. rw t (in_those f xs i (omega arith) w))

pub in_ranked : (f : Lease → Bool) (t : List Lease) (i : ℕ) → i < length t → f (get_or t i no_lease) ≡ true → In (get_or t i no_lease) (ranked (those f t))
unfolding ranked
in_ranked f t i h w = in_fold (get_or t i no_lease) (those f t) [] (in_those f t i h w)

pub stand_in : (f : Lease → Bool) (t : List Lease) (x : Lease) (l : List Lease) → AllStand f t l → In x l → StandsAt f t x
stand_in f t x [] a h = absurd h
stand_in f t x (y ∷ ys) a (inl e) = subst (StandsAt f t) (sym e) a.0
stand_in f t x (y ∷ ys) a (inr h) = stand_in f t x ys a.1 h
