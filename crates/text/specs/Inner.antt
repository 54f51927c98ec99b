-- What inner functions promise. No contract of a pub fn cites this.
use Rattle.std.specs.Prelude.{◌≡◌, ℕ, ◌≤◌, length, drop}
use Rattle.text.specs.Text.{decimal}
use Rattle.text.specs.declared.decimal.Digits.{Digits}

-- The octets from a place on are the digits of a number.
pub record Spelled (n : ℕ) (d : Digits) : Type 0 where
  pub room : length d.octets ≡ 20
  pub within : d.from ≤ 20
  pub digits : drop d.from d.octets ≡ decimal n
