-- Numbers and octets as text, in ASCII. docs/PROGRAMS.md says which lines the programs make of it.
use Rattle.std.specs.Prelude.{true, false, cond, List, [], ◌∷◌, ◌++◌, ℕ, zero, suc, ◌+◌, ◌/◌, ◌%◌, ltb}
use Prim.Native.Char.{code}
use Prim.Native.String.{String}
use Prim.Native.String as string

-- A word of ASCII characters: an octet each.
unfoldable pub ascii : String → List ℕ
ascii string.[] = []
ascii (string.◌∷◌ c s) = code c ∷ ascii s

-- The character of a digit below 16: 0 to 9 stand from 48 on, a to f from 97 on.
unfoldable pub digit : ℕ → ℕ
digit d = cond (ltb d 10) (48 + d) (87 + d)

-- The decimal digits of a number below ten are one, those of any other its last digit behind those of its tenth; at most one and as many more as the
-- first number says.
unfoldable pub decimal_up_to : ℕ → ℕ → List ℕ
decimal_up_to zero n = digit n ∷ []
decimal_up_to (suc more) n = elim (ltb n 10) [ true ↦ digit n ∷ [] | false ↦ decimal_up_to more (n / 10) ++ (digit (n % 10) ∷ []) ]

-- A number in decimal digits, the most significant first and no zero in front. A number has no more digits than one and itself; Claims.antt has the
-- rule without that bound.
unfoldable pub decimal : ℕ → List ℕ
decimal n = decimal_up_to n n

-- Octets in hexadecimal digits, in lower case, two an octet, the more significant first.
unfoldable pub hex : List ℕ → List ℕ
hex [] = []
hex (x ∷ s) = digit (x / 16) ∷ digit (x % 16) ∷ hex s
