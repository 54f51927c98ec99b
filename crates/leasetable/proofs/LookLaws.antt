-- What the scans together say of the whole table. Assumes nothing.
use mathlib.Core.Path.{◌≡◌, refl, sym, ◌∙◌, ap}
use mathlib.Core.Bool.{Bool, true, false, cond, and-false}
use mathlib.Core.List.{List, [], ◌∷◌, ◌++◌, foldl, map, head_d}
use Prim.Native.Nat.{ℕ, zero, suc, ◌≤◌, ◌<◌, min}
use native.Mathlib.Omega.{arith}
use lib.ListN.{length, take, drop, get_or, length-map, length-take}
use lib.Seq.{take_all, take-take, take-append-le}
use lib.Dec.{ltb, eqb}
use borrow.Table.Steps.{cases}
use borrow.Author.Tests.{eq-eqb, ne_eqb, eqb-true, eqb-false, ltb-true, ltb-false}
use Rattle.std.specs.Prelude.{Option, Some, None}
use Rattle.octets.proofs.BoolLaws.{and_left}
use Rattle.clock.specs.declared.Moment.{Moment}
use Rattle.lease.specs.declared.Lease.{Lease}
use Rattle.lease.specs.declared.Rank.{Rank}
use Rattle.lease.specs.Lease.{active_at, rank_of, ranks_before}
use Rattle.leasetable.specs.declared.client.Key.{Key}
use Rattle.leasetable.specs.declared.client.Key.TheVariants.{Address, Hardware, ClientId}
use Rattle.leasetable.specs.declared.client.Client.{Client}
use Rattle.leasetable.specs.declared.record.Record.{Record}
use Rattle.leasetable.specs.declared.look.Found.{Found}
use Rattle.leasetable.specs.declared.look.Found.TheVariants.{OfAddress, OfClient}
use Rattle.leasetable.specs.Table.{rises_from, those, placed}
use Rattle.leasetable.specs.Folds.{Candidates, Associated, client_has, wanted, record_start, record_add, record_turn, record_in, no_rank, no_ranks, client_start, client_wants, client_add, client_turn, client_in, associated, found, found_at, found_from, by_client, looked_by, looked_from}
use Rattle.leasetable.proofs.FormLaws.{rise_first, rise_rest}
use Rattle.leasetable.proofs.CandidateLaws.{Reached, order, ClientReached, client_reached}

-- ---- addresses that rise
rises : (p : ℕ) (x : Lease) (xs : List Lease) → rises_from p (x ∷ xs) ≡ true → (p < x.address) × (rises_from x.address xs ≡ true)
rises p x xs e = (rise_first p x xs e, rise_rest p x xs e)

abbrev at : ℕ → Lease → Bool
at a x = eqb x.address a

none : (t : List Lease) (p a : ℕ) → rises_from p t ≡ true → a ≤ p → those (at a) t ≡ []
unfolding those
none [] p a e l = refl
none (x ∷ xs) p a e l =
    let h = rises p x xs e in
    let n : x.address ≡ a → ⊥ = λ z. omega (arith, h.0, l, z) in
    rw (ne_eqb x.address a n) (none xs x.address a h.1 (omega (arith, h.0, l)))

-- the first record, if there is one, else what there was before
abbrev pub first_or : Option Lease → List Lease → Option Lease
first_or before [] = before
first_or before (x ∷ xs) = Some x

-- the scan has the record of the address
pub record_fold : (t : List Lease) (p : ℕ) (f : Record) → rises_from p t ≡ true → (foldl record_turn f t).best ≡ first_or f.best (those (at f.address) t)
unfolding those
record_fold [] p f e = refl
record_fold (x ∷ xs) p f e =
    let h = rises p x xs e in
    cases (eqb x.address f.address)
    (λ w.
    ap (λ (b : Bool). (foldl record_turn (cond b (record_add f x) f) xs).best) w
    ∙ record_fold xs x.address (record_add f x) h.1
    ∙ ap (first_or (Some x)) (none xs x.address f.address h.1 (omega (arith, eqb-true x.address f.address w)))
    ∙ sym (ap (λ (b : Bool). first_or f.best (cond b (x ∷ those (at f.address) xs) (those (at f.address) xs))) w))
    (λ w.
    ap (λ (b : Bool). (foldl record_turn (cond b (record_add f x) f) xs).best) w
    ∙ record_fold xs x.address f h.1
    ∙ sym (ap (λ (b : Bool). first_or f.best (cond b (x ∷ those (at f.address) xs) (those (at f.address) xs))) w))

pub record_looked : (t : List Lease) (address : ℕ) → rises_from 0 t ≡ true → record_in address t ≡ first_or None (those (at address) t)
record_looked t address e = record_fold t 0 (record_start address) e

-- ---- every record is the only one of its address
module _ (P : Lease → Type 0) where
  abbrev pub All : List Lease → Type 0
  All [] = Unit {0}
  All (x ∷ xs) = P x × All xs

  all_those : (test : Lease → Bool) (t : List Lease) → All t → All (those test t)
  unfolding those
  all_those test [] a = tt
  all_those test (x ∷ xs) a = cases (test x) (λ e. rw e (a.0, all_those test xs a.1)) (λ e. rw e (all_those test xs a.1))

  all_placed : (x : Lease) (l : List Lease) → P x → All l → All (placed x l)
  unfolding placed
  all_placed x [] p a = (p, tt)
  all_placed x (y ∷ ys) p a = cases (ranks_before (rank_of x) (rank_of y)) (λ e. rw e (p, all_placed y ys a.0 a.1)) (λ e. rw e (a.0, all_placed x ys p a.1))

  all_order : (l t : List Lease) → All l → All t → All (order l t)
  all_order l [] a b = a
  all_order l (x ∷ xs) a b = all_order (placed x l) xs (all_placed x l b.0 a) b.1

all_map : (P Q : Lease → Type 0) → ((x : Lease) → P x → Q x) → (l : List Lease) → All P l → All Q l
all_map P Q f [] a = tt
all_map P Q f (x ∷ xs) a = (f x a.0, all_map P Q f xs a.1)

abbrev Only : ℕ → List Lease → Lease → Type 0
Only p t z = (p < z.address) × (those (at z.address) t ≡ z ∷ [])

all_only : (t : List Lease) (p : ℕ) → rises_from p t ≡ true → All (Only p t) t
unfolding those
all_only [] p e = tt
all_only (x ∷ xs) p e =
    let h = rises p x xs e in (
      (h.0, rw (eq-eqb x.address x.address refl) (ap (λ (l : List Lease). x ∷ l) (none xs x.address x.address h.1 (omega arith)))),
      all_map (Only x.address xs) (Only p (x ∷ xs)) (λ z a. (omega (arith, h.0, a.0), rw (ne_eqb x.address z.address (λ q. omega (arith, a.0, q))) a.1)) xs (all_only xs x.address h.1),
    )

-- ---- by client
first_of : (k : ℕ) (r : List Rank) (y : Rank) (ys : List Rank) → take k r ≡ y ∷ ys → get_or r 0 no_rank ≡ y
unfolding head_d
first_of zero r y ys e = absurd (let z = ap length e in omega (arith, z))
first_of (suc k) [] y ys e = absurd (let z = ap length e in omega (arith, z))
first_of (suc k) (x ∷ xs) y ys e = ap (λ (l : List Rank). head_d l no_rank) e

three : (r : List Rank) (k : ℕ) → length r ≡ 4 → k ≤ 3 → take k (take 3 r ++ drop 3 no_ranks) ≡ take k r
three r k e l =
    let m = length-take 3 r in
    take-append-le k (take 3 r) (drop 3 no_ranks) (omega (arith, m, e, l)) ∙ take-take k 3 r l

-- records that pass a test pass it
passing : (test : Lease → Bool) (t : List Lease) → All (λ x. test x ≡ true) (those test t)
unfolding those
passing test [] = tt
passing test (x ∷ xs) = cases (test x) (λ e. rw e (e, passing test xs)) (λ e. rw e (passing test xs))

abbrev pub Active : Moment → Lease → Type 0
Active clock x = active_at clock x ≡ true

-- What a look by client finds of its active leases, which are in the order of their ranks: the first, if there is one, and the ranks of the first 63.
pub record Looked (clock : Moment) (r : Found) (l : List Lease) : Type 0 where
  pub kept : ℕ
  pub ranks : List Rank
  pub found_is : r ≡ found kept ranks (first_or None l)
  pub kept_is : kept ≡ min (length l) 63
  pub ranks_are : take kept ranks ≡ take 63 (map rank_of l)
  pub active : All (Active clock) l

module _ (clock : Moment) (key : Key) (t : List Lease) where
  abbrev l₀ : List Lease
  l₀ = order [] (those (wanted clock key) t)

  -- the ranks, from the first four or from the second scan
  abbrev Ranked : Associated → Type 0
  Ranked g = (g.kept ≡ min (length l₀) 63) × (take g.kept g.ranks ≡ take 63 (map rank_of l₀))

  ranked : (h : Candidates) → ClientReached 4 clock key h l₀ → Ranked (associated h t)
  ranked h r =
      cases (eqb h.kept 4)
      (λ e. rw (e, r.clock_is, r.key_is) (let g = client_reached 63 clock key t in (g.reached.kept_is, g.reached.ranks_are)))
      (λ e.
      let k = r.reached.kept_is in
      let m = eqb-false h.kept 4 e in
      let s : h.kept ≤ 3 = few h.kept (length l₀) k m in
      let z : length l₀ ≤ 3 = fewer h.kept (length l₀) k m in
      let w = length-map l₀ rank_of in
      rw e (omega (arith, k, z), three h.ranks h.kept r.reached.places_are s ∙ r.reached.ranks_are ∙ take_all 4 (map rank_of l₀) (omega (arith, w, z)) ∙ sym (take_all 63 (map rank_of l₀) (omega (arith, w, z)))))
    where
      few : (k m : ℕ) → k ≡ min m 4 → (k ≡ 4 → ⊥) → k ≤ 3
      few k m e n = cases (ltb k 4) (λ t. omega (arith, ltb-true k 4 t)) (λ t. absurd (n (omega (arith, e, ltb-false k 4 t))))

      fewer : (k m : ℕ) → k ≡ min m 4 → (k ≡ 4 → ⊥) → m ≤ 3
      fewer k m e n = let h = few k m e n in omega (arith, e, h)

  -- the record of the first rank
  best : (h : Candidates) (l : List Lease) → Reached 4 h.kept h.ranks l → All (Only 0 t) l → rises_from 0 t ≡ true → found_from h t ≡ found (associated h t).kept (associated h t).ranks (first_or None l)
  best h [] r a e =
      let k : h.kept ≡ 0 = omega (arith, r.kept_is) in
      ap (λ (b : Bool). found (associated h t).kept (associated h t).ranks (cond b None (record_in (get_or h.ranks 0 no_rank).address t))) (eq-eqb h.kept 0 k)
  best h (x ∷ xs) r a e =
      let k : h.kept ≡ 0 → ⊥ = λ z. omega (arith, r.kept_is, z) in
      let q : (get_or h.ranks 0 no_rank).address ≡ x.address = ap (λ (y : Rank). y.address) (first_of h.kept h.ranks (rank_of x) (take 3 (map rank_of xs)) r.ranks_are) in
      let m : record_in (get_or h.ranks 0 no_rank).address t ≡ Some x = ap (λ (d : ℕ). record_in d t) q ∙ record_looked t x.address e ∙ ap (first_or None) a.0.1 in
      ap (λ (b : Bool). found (associated h t).kept (associated h t).ranks (cond b None (record_in (get_or h.ranks 0 no_rank).address t))) (ne_eqb h.kept 0 k)
      ∙ ap (found (associated h t).kept (associated h t).ranks) m

  pub client_looked : rises_from 0 t ≡ true → Looked clock (by_client clock key t) l₀
  unfolding by_client
  client_looked e =
      let h = client_in 4 clock key t in
      let u = client_reached 4 clock key t in
      let v = ranked h u in
      record {
        kept = (associated h t).kept;
        ranks = (associated h t).ranks;
        found_is = best h l₀ u.reached (all_order (Only 0 t) [] (those (wanted clock key) t) tt (all_those (Only 0 t) (wanted clock key) t (all_only t 0 e))) e;
        kept_is = v.0;
        ranks_are = v.1;
        active = all_order (Active clock) [] (those (wanted clock key) t) tt (all_map (λ x. wanted clock key x ≡ true) (Active clock) (λ x w. and_left (active_at clock x) (client_has key x) w) (those (wanted clock key) t) (passing (wanted clock key) t));
      }

-- ---- from other candidates than none
-- The count and the ranks that a find tells. By address the candidates' own, as `associated` takes them: fewer than four are all that there are; with four the table is gone through again, and by address none is found in it.
abbrev pub told : Found → ℕ × List Rank
told (OfAddress best kept ranks) = cond (eqb kept 4) (0, no_ranks) (kept, take 3 ranks ++ drop 3 no_ranks)
told (OfClient best kept ranks) = (kept, ranks)

abbrev pub ranks_in : Associated → ℕ × List Rank
ranks_in all = (all.kept, all.ranks)

-- by address no record is noted
passed : (places d : ℕ) (c : Client places) (t : List Lease) → c.key ≡ Address d → foldl (client_turn places) c t ≡ c
unfolding client_has
passed places d c [] e = refl
passed places d c (x ∷ xs) e =
    let w : client_wants c x ≡ false = ap (λ (k : Key). wanted c.clock k x) e ∙ and-false (active_at c.clock x) in
    ap (λ (b : Bool). foldl (client_turn places) (cond b (client_add places c x) c) xs) w ∙ passed places d c xs e

-- By each kind of key and from whatever candidates, a find tells what `associated` has of them, once the table is scanned.
pub told_all : (a : Candidates) (t : List Lease) → told (looked_from a t) ≡ ranks_in (associated (foldl (client_turn 4) a t) t)
unfolding looked_from
told_all a t = go a.key refl
  where
    go : (k : Key) → a.key ≡ k → told (looked_by k a t) ≡ ranks_in (associated (foldl (client_turn 4) a t) t)
    go (Hardware htype hlen octets) e = refl
    go (ClientId len octets) e = refl
    go (Address d) e =
        let h : told (found_at d a t) ≡ ranks_in (associated a t) =
        cases (eqb a.kept 4)
        (λ z. rw z (sym (ap ranks_in (passed 63 d (client_start 63 a.clock a.key) t e))))
        (λ z. rw z refl)
        in
        h ∙ sym (ap (λ (c : Candidates). ranks_in (associated c t)) (passed 4 d a t e))
