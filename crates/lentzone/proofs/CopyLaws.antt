-- The law of octets that are copied whole. Assumes nothing.
use mathlib.Core.Path.{◌≡◌, ◌∙◌}
use mathlib.Core.List.{List, append-nil}
use Prim.Native.Nat.{ℕ, ◌≤◌}
use native.Mathlib.Nat.{zero-add}
use native.Mathlib.Omega.{arith}
use lib.ListN.{length, drop_of_length-le}
use Rattle.octets.specs.Write.{put, Laid, Wrote}
use Rattle.octets.proofs.WriteLaws.{written}

put_whole : (b s : List ℕ) → length b ≡ length s → put b 0 s ≡ s
unfolding put
put_whole b s e =
    let h : length b ≤ length s = omega arith in
    rw (zero-add, drop_of_length-le b h) (append-nil s)

-- as many octets as there are, laid from the start
pub copied : {b s l : List ℕ} {n : ℕ} → length b ≡ length s → Laid b 0 s l n → l ≡ s
copied {b} {s} {l} {n} e w =
    let p : Wrote b 0 s l n = (written w).fit (omega arith) in
    p.list ∙ put_whole b s e
