-- Laws of the leases that pass a test, by their places. Assumes nothing.
use Prim.Native.Nat.{ℕ, zero, suc, ◌+◌, ◌≤◌, ◌<◌}
use mathlib.Core.Path.{◌≡◌, refl, ap, ◌∙◌}
use mathlib.Core.Bool.{Bool, true, false}
use mathlib.Core.List.{List, [], ◌∷◌, foldl}
use native.Mathlib.Omega.{arith}
use native.Mathlib.Nat.{zero-add}
use lib.Dec.{ltb}
use lib.ListN.{length, get_or}
use borrow.Table.Steps.{cases}
use borrow.Author.Tests.{ltb-true, ltb-false}
use Rattle.lease.specs.declared.Lease.{Lease}
use Rattle.lease.specs.declared.Rank.{Rank}
use Rattle.lease.specs.Lease.{no_lease, rank_of, ranks_before}
use Rattle.leasetable.specs.Table.{those, placed, ranked}
use Rattle.leasetable.proofs.CandidateLaws.{placed_length}

pub true_false : {A : Type 0} {b : Bool} → b ≡ true → b ≡ false → A
true_false p q = absurd (let z : ◌≡◌ {A = ℕ} 0 1 = cc in omega arith)

-- ---- leases that pass a test
pub those_none : (f : Lease → Bool) (t : List Lease) → those f t ≡ [] → (i : ℕ) → i < length t → f (get_or t i no_lease) ≡ true → ⊥
unfolding those
those_none f [] e i h w = omega arith
those_none f (x ∷ xs) e zero h w = let z : x ∷ those f xs ≡ [] = rw w at e in (let n : suc (length (those f xs)) ≡ 0 = ap length z in omega arith)
those_none f (x ∷ xs) e (suc i) h w = cases (f x)
    (λ t. (let z : x ∷ those f xs ≡ [] = rw t at e in let n : suc (length (those f xs)) ≡ 0 = ap length z in omega arith))
    (λ t. those_none f xs (rw t at e) i (omega arith) w)

pub none_those : (f : Lease → Bool) (t : List Lease) → ((i : ℕ) → i < length t → f (get_or t i no_lease) ≡ true → ⊥) → those f t ≡ []
unfolding those
none_those f [] n = refl
none_those f (x ∷ xs) n = cases (f x) (λ t. absurd (n 0 (omega arith) t)) (λ t. rw t (none_those f xs (λ i h w. n (suc i) (omega arith) w)))

-- ---- ranks in order
folded_length : (l m : List Lease) → length (foldl (λ ys x. placed x ys) m l) ≡ length m + length l
folded_length [] m = omega arith
folded_length (x ∷ xs) m = let e = folded_length xs (placed x m) in let p = placed_length x m in e ∙ omega (arith, p)

pub ranked_length : (l : List Lease) → length (ranked l) ≡ length l
unfolding ranked
ranked_length l = folded_length l [] ∙ zero-add (length l)

-- x does not rank before y
abbrev pub NotBefore : Rank → Rank → Type 0
NotBefore x y = (x.last.0 ≤ y.last.0) × (x.last.0 ≡ y.last.0 → y.address ≤ x.address)

pub to_not : (x y : Rank) → ranks_before x y ≡ false → NotBefore x y
unfolding ranks_before
to_not x y e =
    cases (ltb y.last.0 x.last.0) (λ s. absurd (true_false refl (rw s at e)))
    (λ s. cases (ltb x.last.0 y.last.0) (λ t. let l : x.last.0 < y.last.0 = ltb-true _ _ t in (omega arith, λ q. omega arith))
    (λ t. cases (ltb x.address y.address) (λ u. absurd (true_false refl (rw (s, t, u) at e)))
    (λ u. (ltb-false y.last.0 x.last.0 s, λ q. ltb-false x.address y.address u))))

-- ---- where leases that pass a test stand
abbrev pub StandsAt : (Lease → Bool) → List Lease → Lease → Type 0
StandsAt f t x = (i : ℕ) × (i < length t) × (get_or t i no_lease ≡ x) × (f x ≡ true)

abbrev pub AllStand : (Lease → Bool) → List Lease → List Lease → Type 0
AllStand f t [] = Unit {0}
AllStand f t (x ∷ xs) = StandsAt f t x × AllStand f t xs

placed_stand : (f : Lease → Bool) (t : List Lease) (x : Lease) (l : List Lease) → StandsAt f t x → AllStand f t l → AllStand f t (placed x l)
unfolding placed
placed_stand f t x [] p q = (p, tt)
placed_stand f t x (y ∷ ys) p q = cases (ranks_before (rank_of x) (rank_of y)) (λ e. rw e (p, placed_stand f t y ys q.0 q.1)) (λ e. rw e (q.0, placed_stand f t x ys p q.1))

fold_stand : (f : Lease → Bool) (t l m : List Lease) → AllStand f t l → AllStand f t m → AllStand f t (foldl (λ ys x. placed x ys) m l)
fold_stand f t [] m p q = q
fold_stand f t (x ∷ xs) m p q = fold_stand f t xs (placed x m) p.1 (placed_stand f t x m p.0 q)

shift_stand : (f : Lease → Bool) (y : Lease) (t l : List Lease) → AllStand f t l → AllStand f (y ∷ t) l
shift_stand f y t [] p = tt
shift_stand f y t (x ∷ xs) p = ((suc p.0.0, omega (arith, p.0.1), p.0.2, p.0.3), shift_stand f y t xs p.1)

pub those_stand : (f : Lease → Bool) (t : List Lease) → AllStand f t (those f t)
unfolding those
those_stand f [] = tt
those_stand f (x ∷ xs) = cases (f x) (λ w. rw w ((0, omega arith, refl, w), shift_stand f x xs (those f xs) (those_stand f xs))) (λ w. rw w (shift_stand f x xs (those f xs) (those_stand f xs)))

pub ranked_stand : (f : Lease → Bool) (t : List Lease) → AllStand f t (ranked (those f t))
unfolding ranked
ranked_stand f t = fold_stand f t (those f t) [] (those_stand f t) tt
