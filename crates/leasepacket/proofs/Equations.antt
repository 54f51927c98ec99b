-- The equations of options. Assumes nothing.
use Prim.Native.Nat.{ℕ, ◌<◌}
use mathlib.Core.Path.{◌≡◌, refl, ap}
use mathlib.Core.List.{List, [], ◌∷◌, ◌++◌}
use mathlib.Core.Option.{none}
use borrow.Author.Tests.{ne_eqb}
use lib.ListN.{length, take}
use Rattle.leasepacket.specs.Options.{followed, options}
use Rattle.leasepacket.specs.Grammar.{Code, Equations}
use Rattle.leasepacket.proofs.OptionLaws.{skip_past}

passed : (value rest : List ℕ) → options (length value) (value ++ rest) ≡ options 0 rest
unfolding options
passed [] rest = refl
passed (x ∷ xs) rest = passed xs rest

taken : (value rest : List ℕ) → take (length value) (value ++ rest) ≡ value
taken [] rest = refl
taken (x ∷ xs) rest = ap (λ (ys : List ℕ). x ∷ ys) (taken xs rest)

module _ (code : ℕ) (k : Code code) where
  option : (value rest : List ℕ) → options 0 (code ∷ length value ∷ (value ++ rest)) ≡ followed (record { code = code; octets = value }) (options 0 rest)
  unfolding options
  option value rest = rw (ne_eqb code 255 k.not_end, ne_eqb code 0 k.not_padding, passed value rest, taken value rest)

  no_length_lem : options 0 (code ∷ []) ≡ none
  unfolding options
  no_length_lem = rw (ne_eqb code 255 k.not_end, ne_eqb code 0 k.not_padding)

  no_value_lem : (n : ℕ) (octets : List ℕ) → length octets < n → options 0 (code ∷ n ∷ octets) ≡ none
  unfolding options
  no_value_lem n octets h = rw (ne_eqb code 255 k.not_end, ne_eqb code 0 k.not_padding, skip_past n octets h)

pub equations : Equations
unfolding options
equations = record {
  padding = λ rest. refl;
  end = λ rest. refl;
  option = λ code value rest k. option code k value rest;
  no_end = refl;
  no_length = no_length_lem;
  no_value = λ code n octets k h. no_value_lem code k n octets h;
}
