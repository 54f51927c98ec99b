use Rattle.std.proofs.Common.{◌≡◌, ℕ, List, Bor, MatchOption, Option, Some, None, ◌*◌, ◌<◌, length, arith}
use Rattle.std.specs.List.{IsSplitAt}
use Rattle.rdnss.specs.Area.{length_of}
use Rattle.rdnss.specs.Places.{Splits, Ends}
use Rattle.rdnss.proofs.AreaLaws.{ends_short, ends_zero, ends_long, splits}
use Rattle.rdnss.proofs.area.split_option.Goals as goal

pub returns-in_err-get : goal.returns-in_err-get
returns-in_err-get c = rw c.from_residual.ensures (ends_short c.args.area.now (omega (arith, c.in_err-get.ensures.lookup)))

pub returns-then-size-eq0 : goal.returns-then-size-eq0
returns-then-size-eq0 c =
    let h = c.in_ok-get.ensures.lookup in
    ends_zero c.args.area.now (omega (arith, h)) (omega (arith, c.from-size.ensures, h.1))

-- what a split at the size of the first option gives
cut : (w : List ℕ) (n : ℕ) → n ≡ length_of w * 8 → 0 < n → 1 < length w → (r : Option (Bor (List ℕ) × Bor (List ℕ)))
    → MatchOption r (length w < n) (λ p. IsSplitAt w n p.0.now p.1.now) → MatchOption r (Ends w) (λ p. Splits w p.0.now p.1.now)
cut w n e z h None f = ends_long w (omega arith) (omega arith)
cut w n e z h (Some p) f = rw (f.1, f.2) (splits w n e z f.0)

pub returns : goal.returns
returns c =
    let h = c.in_ok-get.ensures.lookup in
    let z = c.if-size-eq0.false in
    let n = c.from-size.result * 8 in
    let e : n ≡ length_of c.args.area.now * 8 = omega (arith, c.from-size.ensures, h.1) in
    let p : 0 < n = omega (arith, z) in
    cut c.args.area.now n e p (omega (arith, h.1)) _ c.split_at_checked.ensures.cases
