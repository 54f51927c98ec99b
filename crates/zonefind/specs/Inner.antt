-- What inner functions promise. No promise of the exported call cites these.
use Rattle.std.specs.Prelude.{◌≡◌, List, ℕ, Option, Some, None, Result, Ok, Err}
use Rattle.octets.specs.Count.{Octets}
use Rattle.lentzone.specs.Decode.{entry_in}
use Rattle.lentzone.specs.Inner.{row_at}
use Rattle.request.specs.declared.refusal.Refusal.{Refusal}
use Rattle.request.specs.Answers.{refused}
use Rattle.zonefind.specs.Find.{find_refusal, find_entry}

-- the place, and 64, which is none, where the name is absent or something is refused
abbrev pub told : Result (Option ℕ) Refusal → ℕ
told (Ok (Some place)) = place
told (Ok None) = 64
told (Err r) = 64

-- the refusal, and a place at which the entry stands
pub record Located (z : List ℕ) (name : Octets) (r : Result (Option ℕ) Refusal) : Type 0 where
  pub refusal_is : refused r ≡ find_refusal z name
  pub entry_is : entry_in (row_at z (told r)) ≡ find_entry z name
