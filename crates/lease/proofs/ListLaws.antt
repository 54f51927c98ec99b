-- Laws of lists that the crates of lease queries share. Assumes nothing.
use mathlib.Core.Path.{◌≡◌, sym, ap, ◌∙◌}
use mathlib.Core.List.{List}
use Prim.Native.Nat.{ℕ, ◌≤◌, ◌<◌, min}
use native.Mathlib.Omega.{arith}
use lib.Dec.{leb}
use lib.ListN.{length, take}
use lib.Seq.{take_all}
use borrow.Table.Steps.{cases}
use borrow.Author.Tests.{leb-true, leb-false}

-- no more is taken than there is
pub take_min : {A : Type 0} (l : List A) (n m : ℕ) → m ≡ min n (length l) → take n l ≡ take m l
take_min l n m e =
    cases (leb n (length l))
    (λ t. let h : n ≤ length l = leb-true n (length l) t in let k : n ≡ m = omega (arith, e) in ap (λ (j : ℕ). take j l) k)
    (λ t.
    let h : length l < n = leb-false n (length l) t in
    let a : length l ≤ n = omega arith in
    let b : length l ≤ m = omega (arith, e) in
    take_all n l a ∙ sym (take_all m l b))
