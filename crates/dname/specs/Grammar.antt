-- The grammar of names. Document 01, "Name option".
use Rattle.std.specs.Prelude.{ℕ, ◌≤◌, ◌<◌, List, [], ◌∷◌, ◌++◌, ◌≡◌, length}
use Rattle.dname.specs.declared.Shape.{Shape}
use Rattle.dname.specs.declared.Shape.TheVariants.{Full, Partial}

-- A label of n octets, 1 to 63.
pub record Label (n : ℕ) (octets : List ℕ) : Type 0 where
  pub some : 0 < n
  pub few : n ≤ 63
  pub size : length octets ≡ n

-- A name is one label followed by a shorter name, or its end: the octet 0 where it is full, the end of the field where it is partial.
pub data Reads : List ℕ → Shape → Type 0 where
  root : Reads (0 ∷ []) Full
  field : Reads [] Partial
  label : {n : ℕ} {octets rest : List ℕ} {s : Shape} → Label n octets → Reads rest s → Reads (n ∷ (octets ++ rest)) s

-- A full name has at least one label and at most 255 octets.
pub record FullName (name : List ℕ) : Type 0 where
  pub reads : Reads name Full
  pub labelled : 1 < length name
  pub short : length name ≤ 255

-- A partial name has at least one label and at most 254 octets.
pub record PartialName (name : List ℕ) : Type 0 where
  pub reads : Reads name Partial
  pub labelled : 0 < length name
  pub short : length name ≤ 254
