-- What the scan by client says of the whole table. Assumes nothing.
use mathlib.Core.Path.{◌≡◌, refl, sym, ◌∙◌, ap, subst}
use mathlib.Core.List.{List, [], ◌∷◌, ◌++◌, foldl, map}
use Prim.Native.Nat.{ℕ, zero, suc, ◌+◌, ◌≤◌, min}
use native.Mathlib.Omega.{arith}
use lib.ListN.{length, take, drop, length-take, length-append, length-drop, length-map, replicate, length-replicate}
use lib.Seq.{take-take, take-append-le}
use borrow.Table.Steps.{cases}
use Rattle.clock.specs.declared.Moment.{Moment}
use Rattle.lease.specs.declared.Lease.{Lease}
use Rattle.lease.specs.declared.Rank.{Rank}
use Rattle.lease.specs.Lease.{rank_of, ranks_before}
use Rattle.lease.proofs.ListLaws.{take_min}
use Rattle.leasetable.specs.declared.client.Key.{Key}
use Rattle.leasetable.specs.declared.client.Client.{Client}
use Rattle.leasetable.specs.Table.{those, placed}
use Rattle.leasetable.specs.Folds.{placed_rank, inserted, wanted, no_rank, client_start, client_with, client_add, client_turn, client_in}
use Rattle.leasetable.proofs.ClientLaws.{noted_is}

-- ---- lists of ranks
placed_rank_length : (e : Rank) (l : List Rank) → length (placed_rank e l) ≡ suc (length l)
unfolding placed_rank
placed_rank_length e [] = refl
placed_rank_length e (y ∷ ys) = cases (ranks_before e y) (λ t. rw t (ap suc (placed_rank_length y ys))) (λ t. rw t (ap suc (placed_rank_length e ys)))

-- the first n places do not depend on what stands behind them
placed_rank_front : (n : ℕ) (e : Rank) (l : List Rank) → take n (placed_rank e (take n l)) ≡ take n (placed_rank e l)
unfolding placed_rank
placed_rank_front zero e l = refl
placed_rank_front (suc n) e [] = refl
placed_rank_front (suc n) e (y ∷ ys) =
    cases (ranks_before e y) (λ t. rw t (ap (λ (l : List Rank). e ∷ l) (placed_rank_front n y ys))) (λ t. rw t (ap (λ (l : List Rank). y ∷ l) (placed_rank_front n e ys)))

-- leases go by their ranks
placed_ranks : (x : Lease) (l : List Lease) → map rank_of (placed x l) ≡ placed_rank (rank_of x) (map rank_of l)
unfolding placed placed_rank
placed_ranks x [] = refl
placed_ranks x (y ∷ ys) =
    cases (ranks_before (rank_of x) (rank_of y)) (λ t. rw t (ap (λ (l : List Rank). rank_of x ∷ l) (placed_ranks y ys))) (λ t. rw t (ap (λ (l : List Rank). rank_of y ∷ l) (placed_ranks x ys)))

pub placed_length : (x : Lease) (l : List Lease) → length (placed x l) ≡ suc (length l)
placed_length x l = sym (length-map (placed x l) rank_of) ∙ ap length (placed_ranks x l) ∙ placed_rank_length (rank_of x) (map rank_of l) ∙ ap suc (length-map l rank_of)

-- ---- what is kept of the leases of a list, which are in order of rank: the first ranks, as many as there are places
pub record Reached (p kept : ℕ) (ranks : List Rank) (l : List Lease) : Type 0 where
  pub kept_is : kept ≡ min (length l) p
  pub ranks_are : take kept ranks ≡ take p (map rank_of l)
  pub places_are : length ranks ≡ p

insert_places : (p k : ℕ) (e : Rank) (l : List Rank) → k ≤ p → length l ≡ p → length (inserted p k e l) ≡ p
unfolding inserted
insert_places p k e l h g =
    let a = length-take p (placed_rank e (take k l) ++ drop (k + 1) l) in
    let b = length-append (placed_rank e (take k l)) (drop (k + 1) l) in
    let c = placed_rank_length e (take k l) in
    let d = length-take k l in
    let f = length-drop (k + 1) l in
    omega (arith, a, b, c, d, f)

insert_ranks : (p k : ℕ) (e : Rank) (l rs : List Rank) → k ≡ min (length rs) p → length l ≡ p → take k l ≡ take p rs → take (min (k + 1) p) (inserted p k e l) ≡ take p (placed_rank e rs)
unfolding inserted
insert_ranks p k e l rs q g w =
    let m = min (k + 1) p in
    let b = placed_rank e (take k l) in
    let c : length b ≡ suc (length (take k l)) = placed_rank_length e (take k l) in
    let d = length-take k l in
    let i : m ≤ p = omega arith in
    let j : m ≤ length b = omega (arith, c, d, q, g) in
    let z : m ≡ min p (length b) = omega (arith, c, d, q, g) in
    take-take m p (b ++ drop (k + 1) l) i
    ∙ take-append-le m b (drop (k + 1) l) j
    ∙ sym (take_min b p m z)
    ∙ ap (λ (t : List Rank). take p (placed_rank e t)) w
    ∙ placed_rank_front p e rs

pub reached_none : (p : ℕ) (ranks : List Rank) → length ranks ≡ p → Reached p 0 ranks []
reached_none p ranks e = record { kept_is = omega arith; ranks_are = sym (take_nil p); places_are = e }
  where
    take_nil : (n : ℕ) → take n (map rank_of []) ≡ []
    take_nil zero = refl
    take_nil (suc n) = refl

reached_more : (p k : ℕ) (ranks : List Rank) (l : List Lease) (x : Lease) → Reached p k ranks l → Reached p (min (k + 1) p) (inserted p k (rank_of x) ranks) (placed x l)
reached_more p k ranks l x r =
    let h : k ≤ p = omega (arith, r.kept_is) in
    let m = length-map l rank_of in
    let z = placed_length x l in
    record {
      kept_is = omega (arith, r.kept_is, z);
      ranks_are = insert_ranks p k (rank_of x) ranks (map rank_of l) (omega (arith, r.kept_is, m)) r.places_are r.ranks_are ∙ sym (ap (take p) (placed_ranks x l));
      places_are = insert_places p k (rank_of x) ranks h r.places_are;
    }

abbrev pub order : List Lease → List Lease → List Lease
order l t = foldl (λ ys x. placed x ys) l t

-- ---- the scan by client
pub record ClientReached (p : ℕ) (clock : Moment) (key : Key) (h : Client p) (l : List Lease) : Type 0 where
  pub clock_is : h.clock ≡ clock
  pub key_is : h.key ≡ key
  pub reached : Reached p h.kept h.ranks l

module _ (p : ℕ) (clock : Moment) (key : Key) where
  client_more : (a : Client p) (l : List Lease) (x : Lease) → ClientReached p clock key a l → ClientReached p clock key (client_add p a x) (placed x l)
  client_more a l x r =
      let h : a.kept ≤ p = omega (arith, r.reached.kept_is) in
      let e = noted_is p a.kept a.ranks x (client_with a) a h in
      subst (λ (g : Client p). ClientReached p clock key g (placed x l)) (sym e) (record { clock_is = r.clock_is; key_is = r.key_is; reached = reached_more p a.kept a.ranks l x r.reached })

  wants_is : (a : Client p) (l : List Lease) (x : Lease) → ClientReached p clock key a l → wanted a.clock a.key x ≡ wanted clock key x
  wants_is a l x r = rw (r.key_is, r.clock_is)

  -- the scan puts every active lease of the client in its place
  pub client_fold : (t : List Lease) (a : Client p) (l : List Lease) → ClientReached p clock key a l → ClientReached p clock key (foldl (client_turn p) a t) (order l (those (wanted clock key) t))
  unfolding those
  client_fold [] a l r = r
  client_fold (x ∷ xs) a l r =
      cases (wanted clock key x)
      (λ w. rw (w, wants_is a l x r ∙ w) (client_fold xs (client_add p a x) (placed x l) (client_more a l x r)))
      (λ w. rw (w, wants_is a l x r ∙ w) (client_fold xs a l r))

  -- so it does from its start
  pub client_reached : (t : List Lease) → ClientReached p clock key (client_in p clock key t) (order [] (those (wanted clock key) t))
  client_reached t = client_fold t (client_start p clock key) [] (record { clock_is = refl; key_is = refl; reached = reached_none p (replicate p no_rank) (length-replicate {A = Rank} p no_rank) })
