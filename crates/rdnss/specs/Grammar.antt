-- The grammar of option areas. Document 01, "Server list"; the layout is that of RFC 5006, section 5.1.
use Rattle.std.specs.Prelude.{true, List, [], ◌∷◌, ◌++◌, ◌≡◌, ℕ, suc, ◌+◌, ◌*◌, length}
use Rattle.rdnss.specs.Area.{is_whole, options}

-- An option of Length n + 1 has 8 (n + 1) octets: Type, Length, and 6 + 8 n behind them.
pub record Option (kind n : ℕ) (value : List ℕ) : Type 0 where
  pub size : length value ≡ 6 + 8 * n

-- An area is nothing, or an option followed by an area; beside it stand its options, each with all its octets.
pub data Area : List ℕ → List (List ℕ) → Type 0 where
  nothing : Area [] []
  option : {kind n : ℕ} {value rest : List ℕ} {others : List (List ℕ)} → Option kind n value → Area rest others
      → Area (kind ∷ suc n ∷ (value ++ rest)) ((kind ∷ suc n ∷ value) ∷ others)

-- The walk over an area says what the grammar says: what the grammar has as an area is whole and has these options, and what is whole the grammar has, with the options that the walk finds.
pub record WalkAgrees : Type 0 where
  pub whole : (area : List ℕ) (found : List (List ℕ)) → Area area found → is_whole 0 area ≡ true
  pub found : (area : List ℕ) (found : List (List ℕ)) → Area area found → options 0 area ≡ found
  pub reads : (area : List ℕ) → is_whole 0 area ≡ true → Area area (options 0 area)
