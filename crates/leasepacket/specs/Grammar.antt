-- The equations of options, by which a reader may check their definition. Document 01, "Lease table and queries".
use Rattle.std.specs.Prelude.{ℕ, ◌<◌, ◌≡◌, List, [], ◌∷◌, ◌++◌, length}
use Rattle.std.proofs.Math.Option.{none, some}
use Rattle.leasepacket.specs.Options.{followed, options}

-- A code that is neither padding nor the end.
pub record Code (code : ℕ) : Type 0 where
  pub not_padding : ¬ (code ≡ 0)
  pub not_end : ¬ (code ≡ 255)

pub record Equations : Type 0 where
  -- Padding is passed over.
  pub padding : (rest : List ℕ) → options 0 (0 ∷ rest) ≡ options 0 rest
  -- The end option ends the options, whatever follows it.
  pub end : (rest : List ℕ) → options 0 (255 ∷ rest) ≡ some []
  -- An option, its code and length and value, stands in front of the rest.
  pub option : (code : ℕ) (value rest : List ℕ) → Code code → options 0 (code ∷ length value ∷ (value ++ rest)) ≡ followed (record { code = code; octets = value }) (options 0 rest)
  -- There are none where the octets are used up before an end option, behind a code, or inside a value.
  pub no_end : options 0 [] ≡ none
  pub no_length : (code : ℕ) → Code code → options 0 (code ∷ []) ≡ none
  pub no_value : (code n : ℕ) (octets : List ℕ) → Code code → length octets < n → options 0 (code ∷ n ∷ octets) ≡ none
