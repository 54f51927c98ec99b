-- Domain names in a field of octets. Document 01, "Name option".
use Rattle.std.specs.Prelude.{ℕ, zero, suc, ◌+◌, Bool, true, false, cond, ◌&&◌, List, [], ◌∷◌, map, ltb, leb, length, take}
use Rattle.octets.specs.Compare.{same_octets}
use Rattle.dname.specs.declared.Shape.{Shape}
use Rattle.dname.specs.declared.Shape.TheVariants.{Empty, Full, Partial, Malformed}
use Rattle.dname.specs.declared.name.Name.{Name}

-- Document 01, "Name option": one label followed by a shorter name, or the end. The number says how many octets of the label
-- that has begun are still to come. Where none are, the field ends there (partial), its last octet is 0 (full), or the length
-- of a label follows, 1 to 63.
unfoldable pub labels_of : ℕ → List ℕ → Shape
labels_of (suc left) [] = Malformed
labels_of (suc left) (x ∷ rest) = labels_of left rest
labels_of zero [] = Partial
labels_of zero (zero ∷ []) = Full
labels_of zero (zero ∷ x ∷ rest) = Malformed
labels_of zero (suc n ∷ rest) = elim (ltb n 63) [ true ↦ labels_of (suc n) rest | false ↦ Malformed ]

-- Document 01, "Name option": a full name has at most 255 octets, a partial one at most 254.
unfoldable pub limited : Shape → ℕ → Shape
limited Full octets = cond (leb octets 255) Full Malformed
limited Partial octets = cond (leb octets 254) Partial Malformed
limited Empty octets = Malformed
limited Malformed octets = Malformed

-- Document 01, "Name option": what a whole field holds. A name has a label, so the octet 0 alone is malformed.
unfoldable pub shape_of : List ℕ → Shape
shape_of [] = Empty
shape_of (zero ∷ rest) = Malformed
shape_of (suc n ∷ rest) = limited (labels_of 0 (suc n ∷ rest)) (length (suc n ∷ rest))

abbrev pub full : Shape → Bool
full Empty = false
full Full = true
full Partial = false
full Malformed = false

-- Whether a field holds a full name.
unfoldable pub is_full : List ℕ → Bool
is_full name = full (shape_of name)

-- The name that a struct holds: as many of its octets as its length says.
abbrev pub name_of : Name → List ℕ
name_of n = take n.len n.octets

-- Document 02, a), and RFC 4343, section 3: a capital letter, 65 to 90, counts as the small one, 32 above it. Every other octet counts as itself.
abbrev pub lower : ℕ → ℕ
lower x = cond (leb 65 x && leb x 90) (x + 32) x

-- Document 02, a): two names are equal exactly when their keys are, and every rule that compares names goes by the key. Folding all octets
-- folds just the labels: the length of a label is at most 63, below every letter.
unfoldable pub key : List ℕ → List ℕ
key name = map lower name

unfoldable pub same_name : List ℕ → List ℕ → Bool
same_name a b = same_octets (key a) (key b)
