-- The laws of an option's addresses, one behind the other. Assumes nothing.
use mathlib.Core.Path.{◌≡◌, refl, ap}
use mathlib.Core.List.{List, ◌∷◌, map}
use Prim.Native.Nat.{ℕ, zero, suc, ◌-◌, ◌≤◌}
use native.Mathlib.Omega.{arith}
use lib.ListN.{take, drop}
use Rattle.std.specs.Simd.{first_chunks}
use Rattle.serverlist.specs.declared.Address6.{Address6}
use Rattle.rdnss.specs.Area.{addresses_from}
use Rattle.rdnss.specs.Places.{address}

-- the first n of k chunks of 16 octets
pub chunks_from : (n k : ℕ) (s : List ℕ) → n ≤ k → map address (take n (first_chunks 16 k s)) ≡ addresses_from n s
unfolding addresses_from
chunks_from zero k s h = refl
chunks_from (suc n) zero s h = absurd (omega arith)
chunks_from (suc n) (suc k) s h = ap (λ (l : List Address6). address (take 16 s) ∷ l) (chunks_from n k (drop 16 s) (omega arith))

pub addresses_start : (n : ℕ) (s : List ℕ) → addresses_from n s ≡ addresses_from (n - 0) s
addresses_start n s =
    let e : n ≡ n - 0 = omega arith in
    ap (λ (m : ℕ). addresses_from m s) e
