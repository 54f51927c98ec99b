-- The reader's steps by places: labels passed over between two places of a field. Assumes nothing.
use mathlib.Core.Path.{◌≡◌, sym, ap, ◌∙◌}
use mathlib.Core.List.{List}
use Prim.Native.Nat.{ℕ, ◌-◌, ◌≤◌}
use native.Mathlib.Omega.{arith}
use lib.ListN.{length, take, drop}
use Rattle.dname.specs.Name.{labels_of}
use Rattle.dname.specs.Reading.{ending}
use Rattle.dname.specs.declared.Shape.{Shape}
use Rattle.dname.specs.declared.Shape.TheVariants.{Empty, Full, Partial, Malformed}
use Rattle.dname.proofs.NameLaws.{part_rest}

-- whole labels stand between two places of a field: it reads the same from both
pub record Passed (field : List ℕ) (from to : ℕ) : Type 0 where
  pub same : labels_of 0 (drop to field) ≡ labels_of 0 (drop from field)
  pub forward : from ≤ to
  pub within : to ≤ length field

-- one label is passed over; or none is, and then no whole label stands there
pub record PassedOne (field : List ℕ) (from to : ℕ) : Type 0 where
  pub passed : Passed field from to
  pub stops : to ≡ from → labels_of 0 (drop from field) ≡ ending (drop from field)

-- a shape by a number, one for those that are no name
unfoldable pub code : Shape → ℕ
code Full = 1
code Partial = 2
code Empty = 3
code Malformed = 3

-- labels behind labels
pub passed_more : {s : List ℕ} {a b c : ℕ} → Passed s a b → Passed s b c → Passed s a c
passed_more {a = a} {b = b} {c = c} p q =
    let l = p.forward in
    let m = q.forward in
    record { same = q.same ∙ p.same; forward = omega arith; within = q.within }

-- what a field holds, by where the labels passed over end
pub reads_end : (s : List ℕ) (at to : ℕ) → Passed s 0 at → PassedOne s at to → to ≡ at → code (ending (drop at s)) ≡ code (labels_of 0 s)
reads_end s at to p q e = ap code (sym (q.stops e) ∙ p.same)

pub goes_on_lem : (s : List ℕ) (to : ℕ) → Passed s 0 to → labels_of 0 (take (length s - to) (drop to s)) ≡ labels_of 0 s
goes_on_lem s to p = ap (labels_of 0) (part_rest s to) ∙ p.same
