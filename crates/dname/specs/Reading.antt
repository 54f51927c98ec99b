-- What the inner functions of the reader say: a label passed over, and what stands where no label follows.
use Rattle.std.specs.Prelude.{ℕ, zero, suc, ◌<◌, List, [], ◌∷◌, ◌≡◌, length}
use Rattle.dname.specs.Name.{labels_of}
use Rattle.dname.specs.declared.Shape.{Shape}
use Rattle.dname.specs.declared.Shape.TheVariants.{Full, Partial, Malformed}

-- Whole labels stand in front of the rest of a field: it reads the same.
pub record Passed (field rest : List ℕ) : Type 0 where
  pub same : labels_of 0 rest ≡ labels_of 0 field
  pub fewer : length rest < length field

-- The rest of a field where no whole label follows: the field's end, the octet 0 at it, or anything else.
unfoldable pub ending : List ℕ → Shape
ending [] = Partial
ending (zero ∷ []) = Full
ending (zero ∷ x ∷ rest) = Malformed
ending (suc n ∷ rest) = Malformed
