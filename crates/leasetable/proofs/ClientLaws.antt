-- The laws of a client's leases, one for each way out of a definition. Assumes nothing.
use mathlib.Core.Path.{◌≡◌, refl, sym, ◌∙◌, ap}
use mathlib.Core.Bool.{Bool, true, false, not, and-false, and-true}
use mathlib.Core.List.{List}
use Prim.Native.Nat.{ℕ, ◌+◌, ◌≤◌, ◌<◌, min}
use borrow.Author.Tests.{lt-ltb, le-ltb, not-true, not-false}
use Rattle.clock.specs.declared.Moment.{Moment}
use Rattle.lease.specs.declared.Lease.{Lease}
use Rattle.lease.specs.declared.Rank.{Rank}
use Rattle.lease.specs.Lease.{active_at, has_hardware, has_client_id, rank_of}
use Rattle.leasetable.specs.declared.client.Key.{Key}
use Rattle.leasetable.specs.declared.client.Key.TheVariants.{Address, Hardware, ClientId}
use Rattle.leasetable.specs.Folds.{client_has, inserted, wanted, noted}

-- ---- the key of the client
module _ (k : Key) (x : Lease) where
  pub client_by_hardware : {htype hlen : ℕ} {octets : List ℕ} → k ≡ Hardware htype hlen octets → has_hardware htype hlen octets x ≡ client_has k x
  unfolding client_has
  client_by_hardware e = rw e refl

  pub client_by_id : {len : ℕ} {octets : List ℕ} → k ≡ ClientId len octets → has_client_id len octets x ≡ client_has k x
  unfolding client_has
  client_by_id e = rw e refl

  pub client_by_none : {address : ℕ} → k ≡ Address address → false ≡ client_has k x
  unfolding client_has
  client_by_none e = rw e refl

-- ---- the leases that are noted; b is whether the lease has the key
module _ (clock : Moment) (k : Key) (x : Lease) {b : Bool} (h : b ≡ client_has k x) where
  pub wanted_not : not b ≡ true → false ≡ wanted clock k x
  wanted_not e = let f : client_has k x ≡ false = sym h ∙ not-true b e in rw f (sym (and-false (active_at clock x)))

  pub wanted_if : {r : Bool} → not b ≡ false → r ≡ active_at clock x → r ≡ wanted clock k x
  wanted_if e a = let f : client_has k x ≡ true = sym h ∙ not-false b e in rw f (a ∙ sym (and-true (active_at clock x)))

-- ---- a lease noted
module _ {A : Type 0} (p k : ℕ) (l : List Rank) (x : Lease) (carry : ℕ → List Rank → A) (a : A) where
  -- more ranks than there are places are never kept
  pub noted_not : p < k → a ≡ noted p k l x carry a
  unfolding noted
  noted_not h = rw (lt-ltb p k h)

  pub noted_is : k ≤ p → noted p k l x carry a ≡ carry (min (k + 1) p) (inserted p k (rank_of x) l)
  unfolding noted
  noted_is h = rw (le-ltb p k h)

  -- the same by its parts: the rank of the lease, the ranks with it, and how many there are
  pub noted_by : k ≤ p → {r : Rank} {l' : List Rank} {k' : ℕ} → r ≡ rank_of x → l' ≡ inserted p k r l → k' ≡ min (k + 1) p → carry k' l' ≡ noted p k l x carry a
  noted_by h {l' = m} e f g = sym (noted_is h ∙ sym (ap (λ (t : ℕ). carry t m) g ∙ ap (carry (min (k + 1) p)) (f ∙ ap (λ (t : Rank). inserted p k t l) e)))
