use Rattle.std.proofs.Common.{◌≡◌, ℕ, ◌+◌, List, drop, sym, ap, ◌∙◌, subst, arith}
use Rattle.std.proofs.lemmas.Result.{err_from_is_err_and}
use Rattle.std.specs.Prelude.{Option, Result, Ok}
use Rattle.leasepacket.specs.declared.options.Fault.{Fault}
use Rattle.leasepacket.specs.Options.{options}
use Rattle.leasepacket.specs.Occurrence.{before, Occurrence, occurrence}
use Rattle.leasepacket.specs.Places.{step_of}
use Rattle.leasepacket.proofs.OptionLaws.{left, left_all, Told, step_told}
use Rattle.leasepacket.proofs.options.find.Goals as goal

-- what the step told, by what it came to
told : (s : List ℕ) (code at : ℕ) (seen : Occurrence) (step : Result (Option (ℕ × Occurrence)) Fault) → step ≡ step_of s code at seen → occurrence code s ≡ left code seen (at + before code 0 (drop at s)) (options 0 (drop at s)) → Told s code at seen (occurrence code s) step
told s code at seen step e inv =
    subst (Told s code at seen (occurrence code s)) (sym e)
    (subst (λ (w : Occurrence). Told s code at seen w (step_of s code at seen)) (sym inv) (step_told s code at seen))

pub loop-next-init : goal.loop-next-init
loop-next-init c = left_all c.args.code c.args.s.now

pub returns-in_err-next : goal.returns-in_err-next
returns-in_err-next c =
    let p = err_from_is_err_and c.from_residual.result c.from_residual.ensures.1 in
    rw (p.1, p.2) (sym (told c.args.s.now c.args.code c.loop-next.at c.loop-next.seen _ c.in_err-next.ensures c.loop-next.invariant))

pub loop-next-smaller : goal.loop-next-smaller
loop-next-smaller c =
    let t = told c.args.s.now c.args.code c.loop-next.at c.loop-next.seen _ (ap Ok (sym c.in-Some.is) ∙ c.in_ok-next.ensures) c.loop-next.invariant in
    omega (arith, t.1, t.2)

pub loop-next-preserved : goal.loop-next-preserved
loop-next-preserved c = (told c.args.s.now c.args.code c.loop-next.at c.loop-next.seen _ (ap Ok (sym c.in-Some.is) ∙ c.in_ok-next.ensures) c.loop-next.invariant).0

pub returns : goal.returns
returns c =
    sym (told c.args.s.now c.args.code c.loop-next.at c.loop-next.seen _ (ap Ok (sym c.in_default.is) ∙ c.in_ok-next.ensures) c.loop-next.invariant)
