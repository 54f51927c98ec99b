-- Numbers in strings of octets. Document 01 takes its layouts from RFC 2131, 2132 and 5006: numbers stand with the most significant octet first.
use Rattle.std.specs.Prelude.{ℕ, zero, suc, ◌+◌, ◌*◌, ◌/◌, ◌%◌, List, [], ◌∷◌, ◌++◌, get_or}

-- The number that the octets of s from a place on stand for, as many as the width says; an octet past the end counts as 0.
unfoldable pub number_at : ℕ → List ℕ → ℕ → ℕ
number_at zero s at = 0
number_at (suc width) s at = number_at width s at * 256 + get_or s (at + width) 0

-- The octets of a number, as many as the width says.
unfoldable pub big_endian : ℕ → ℕ → List ℕ
big_endian zero v = []
big_endian (suc width) v = big_endian width (v / 256) ++ (v % 256 ∷ [])
