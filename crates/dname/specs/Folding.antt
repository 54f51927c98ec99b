-- What folding leaves of a name. Document 02, a).
use Rattle.std.specs.Prelude.{ℕ, ◌+◌, ◌≤◌, List, ◌∷◌, ◌++◌, ◌⊎◌, ◌≡◌, length}
use Rattle.dname.specs.Name.{shape_of, lower, key}
use Rattle.dname.specs.Grammar.{Label}

-- The capital and the small form of one letter.
pub record OneLetter (capital small : ℕ) : Type 0 where
  pub from : 65 ≤ capital
  pub to : capital ≤ 90
  pub above : small ≡ capital + 32

-- Folding keeps what a field holds and how long it is, it folds the labels of a name each by itself and leaves their lengths, and what is
-- folded stays as it is. Two octets count as the same only where they are equal or are the two forms of one letter.
pub record FoldsLabels : Type 0 where
  pub shape : (name : List ℕ) → shape_of (key name) ≡ shape_of name
  pub size : (name : List ℕ) → length (key name) ≡ length name
  pub labels : {n : ℕ} {octets : List ℕ} (rest : List ℕ) → Label n octets → key (n ∷ (octets ++ rest)) ≡ n ∷ (key octets ++ key rest)
  pub again : (name : List ℕ) → key (key name) ≡ key name
  pub letters : (x y : ℕ) → lower x ≡ lower y → (x ≡ y) ⊎ (OneLetter x y ⊎ OneLetter y x)
