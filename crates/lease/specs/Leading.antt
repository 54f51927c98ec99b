-- The leading octets of a number. Only contracts inside this crate cite this.
use Rattle.std.specs.Prelude.{ℕ, ◌*◌, ◌-◌, ◌^◌, ◌%◌, cond, ltb, eqb}

-- Of a number of eight octets, what the first n of them make: the others are shifted out.
unfoldable pub leading : ℕ → ℕ → ℕ
leading n v = cond (eqb n 0) 0 (cond (ltb 7 n) v ((v * 2 ^ (64 - 8 * n)) % 2 ^ 64))
