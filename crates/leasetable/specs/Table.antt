-- The lease table as a whole. Document 01, "Lease table and queries".
use Rattle.std.specs.Prelude.{ℕ, Bool, true, cond, ◌&&◌, ltb, leb, length}
use mathlib.Core.List.{List, [], ◌∷◌, foldl}
use Rattle.lease.specs.declared.Lease.{Lease}
use Rattle.lease.specs.Lease.{well_formed, rank_of, ranks_before}

-- Every record has the form of a lease, and the addresses rise strictly from above the one given.
unfoldable pub rises_from : ℕ → List Lease → Bool
rises_from address [] = true
rises_from address (x ∷ xs) = ltb address x.address && well_formed x && rises_from x.address xs

-- At most 256 records.
abbrev pub count_fits : ℕ → Bool
count_fits count = leb count 256

-- The table keeps its form: no more records than that, addresses not zero and strictly rising. If not, that is refusal 9.
unfoldable pub table_fits : List Lease → Bool
table_fits t = count_fits (length t) && rises_from 0 t

-- The records that pass a test, in the table's order.
unfoldable pub those : (Lease → Bool) → List Lease → List Lease
those test [] = []
those test (x ∷ xs) = cond (test x) (x ∷ those test xs) (those test xs)

-- A record goes into a list at its rank: of it and the one it meets, the one that ranks first stays, and the other goes on.
unfoldable pub placed : Lease → List Lease → List Lease
placed x [] = x ∷ []
placed x (y ∷ ys) = cond (ranks_before (rank_of x) (rank_of y)) (x ∷ placed y ys) (y ∷ placed x ys)

-- Records in the order of their ranks: latest transaction first, ties to the lowest address.
unfoldable pub ranked : List Lease → List Lease
ranked xs = foldl (λ ys x. placed x ys) [] xs
