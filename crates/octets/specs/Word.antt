-- Octets as one number. Only the contracts of inner functions cite this.
use Rattle.std.specs.Prelude.{ℕ, ◌+◌, ◌*◌, ◌/◌, List, [], ◌∷◌}
use Rattle.std.specs.Int.Bits.{bit_and, bit_or}

-- The first octet is the least significant.
unfoldable pub value : List ℕ → ℕ
value [] = 0
value (x ∷ xs) = x + 256 * value xs

-- An octet with its bit of weight 32 set where that of weight 64 is: so a capital letter becomes the small one, and octets under 64 stay.
unfoldable pub caseless : ℕ → ℕ
caseless x = bit_or x (bit_and (x / 2) 32)
