-- The promise of the lease query leaves nothing free. Assumes nothing.
use mathlib.Core.Path.{◌≡◌, sym, ◌∙◌}
use mathlib.Core.List.{List}
use Prim.Native.Nat.{ℕ}
use Rattle.clock.specs.declared.Moment.{Moment}
use Rattle.lease.specs.declared.Lease.{Lease}
use Rattle.leasequery.specs.declared.LeaseAnswer.{LeaseAnswer}
use Rattle.leasequery.specs.Promise.{LeasePromise}

-- Of two calls with the same arguments, the results are the same, and the buffers hold the same octets.
pub determined : (clock : Moment) (table : List Lease) (server : ℕ) (query before : List ℕ) (r s : LeaseAnswer) (ys zs : List ℕ) → LeasePromise clock table server query before r ys → LeasePromise clock table server query before s zs → (r ≡ s) × (ys ≡ zs)
determined clock table server query before r s ys zs p q = (p.answers ∙ sym q.answers, p.writes ∙ sym q.writes)
