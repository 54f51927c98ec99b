-- What a reader wants to know of numbers and octets as text. Each claim is proved in proofs/TextLaws.antt.
use Rattle.std.specs.Prelude.{cond, ◌≡◌, ℕ, ◌+◌, ◌-◌, ◌*◌, ◌/◌, ◌%◌, ◌^◌, ◌≤◌, ◌<◌, ltb, length, get_or}
use mathlib.Core.List.{List, [], ◌∷◌, ◌++◌, foldl}
use Rattle.text.specs.Text.{digit, decimal, hex}

-- The rule of decimal digits: a number below ten is its digit, any other its tenth and then its last digit.
pub record DecimalRule : Type 0 where
  pub one : (n : ℕ) → n < 10 → decimal n ≡ digit n ∷ []
  pub more : (n : ℕ) → 10 ≤ n → decimal n ≡ decimal (n / 10) ++ (digit (n % 10) ∷ [])

-- The digit that a character stands for.
abbrev pub digit_of : ℕ → ℕ
digit_of c = cond (ltb c 58) (c - 48) (c - 87)

-- The number that decimal digits stand for.
abbrev pub number_of : List ℕ → ℕ
number_of s = foldl (λ v c. v * 10 + digit_of c) 0 s

-- The octets that pairs of hexadecimal digits stand for.
unfoldable pub octets_of : List ℕ → List ℕ
octets_of [] = []
octets_of (a ∷ []) = []
octets_of (a ∷ b ∷ s) = (digit_of a * 16 + digit_of b) ∷ octets_of s

-- Decimal digits read back as the number; so no two numbers have the same.
abbrev pub DecimalReadsBack : Type 0
DecimalReadsBack = (n : ℕ) → number_of (decimal n) ≡ n

-- A number below 10 to the power of k has at most k decimal digits, if k is not 0.
abbrev pub DecimalIsShort : Type 0
DecimalIsShort = (k n : ℕ) → 0 < k → n < 10 ^ k → length (decimal n) ≤ k

-- Only 0 begins with the digit 0.
abbrev pub NoZeroInFront : Type 0
NoZeroInFront = (n : ℕ) → get_or (decimal n) 0 48 ≡ 48 → n ≡ 0

-- Hexadecimal digits are two an octet, and read back as the octets.
abbrev pub TwoAnOctet : Type 0
TwoAnOctet = (s : List ℕ) → length (hex s) ≡ 2 * length s

-- All numbers of a list are octets.
abbrev pub AreOctets : List ℕ → Type 0
AreOctets [] = Unit {0}
AreOctets (x ∷ s) = (x < 256) × AreOctets s

abbrev pub HexReadsBack : Type 0
HexReadsBack = (s : List ℕ) → AreOctets s → octets_of (hex s) ≡ s
