-- The order of ranks, as the code compares them. Assumes nothing.
use Rattle.std.proofs.Common.{arith, ◌≡◌, is_lt, nat_cmp}
use Rattle.std.proofs.lemmas.Grind.{common_steps}
use Rattle.std.specs.Ordering.{on, flip_args, then_cmp}
use Rattle.lease.specs.declared.Rank.{Rank}
use Rattle.lease.specs.Lease.{ranks_before}

pub lower_is : (x y : Rank) → is_lt (then_cmp (flip_args (on (λ (r : Rank). r.last.0) nat_cmp)) (on (λ (r : Rank). r.address) nat_cmp) x y) ≡ ranks_before x y
unfolding ranks_before
lower_is x y = grind (arith, common_steps)
