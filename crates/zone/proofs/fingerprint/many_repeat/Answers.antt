use Rattle.std.proofs.Common.{◌≡◌, ℕ, ◌+◌, ◌-◌, ◌<◌, ◌≤◌, length, get_or, take, drop, length-drop, sym, refl, ap, ◌∙◌, true≢false, arith}
use Rattle.std.proofs.lemmas.List.{take_all}
use Rattle.zone.specs.Survey.{among}
use Rattle.zone.proofs.FingerprintLaws.{marked_none, marked_put, marked_keep, back_new, back_not, back_again, repeated_end}
use Rattle.zone.proofs.fingerprint.many_repeat.Goals as goal

pub loop-i-init : goal.loop-i-init
loop-i-init c =
    let p = c.args.p.now in
    (omega arith, repeated_end p (length p) (omega arith), marked_none p _ refl)

pub loop-i-preserved-then-not-seen-m : goal.loop-i-preserved-then-not-seen-m
loop-i-preserved-then-not-seen-m c =
    let p = c.args.p.now in
    let l = c.loop-i in
    let s : 0 < l.i = omega arith in
    let b : l.i ≤ length p = l.invariant.0 in
    let m = l.invariant.2 in
    let k = c.mark-m.ensures.0 in
    (omega arith, back_new p l.seen l.i s b m _ k c.if-not-seen-m.true l.invariant.1, marked_put p l.seen l.i s b m _ k)

pub returns-then-is_among : goal.returns-then-is_among
returns-then-is_among c =
    let p = c.args.p.now in
    let l = c.loop-i in
    let s : 0 < l.i = omega arith in
    let b : l.i ≤ length p = l.invariant.0 in
    let e : l.i - 1 + 1 ≡ l.i = omega arith in
    let whole : take (length p - (l.i - 1 + 1)) (drop (l.i - 1 + 1) p) ≡ drop l.i p = take_all _ (drop (l.i - 1 + 1) p) (omega (arith, length-drop (l.i - 1 + 1) p)) ∙ ap (λ (k : ℕ). drop k p) e in
    let t = ap (among (get_or p (l.i - 1) 0)) (sym whole) ∙ sym c.is_among.ensures in
    back_again p l.seen l.i s b l.invariant.2 _ c.mark-m.ensures.0 (t ∙ c.if-is_among.true)

pub loop-i-preserved : goal.loop-i-preserved
loop-i-preserved c =
    let p = c.args.p.now in
    let l = c.loop-i in
    let s : 0 < l.i = omega arith in
    let b : l.i ≤ length p = l.invariant.0 in
    let m = l.invariant.2 in
    let k = c.mark-m.ensures.0 in
    let e : l.i - 1 + 1 ≡ l.i = omega arith in
    let whole : take (length p - (l.i - 1 + 1)) (drop (l.i - 1 + 1) p) ≡ drop l.i p = take_all _ (drop (l.i - 1 + 1) p) (omega (arith, length-drop (l.i - 1 + 1) p)) ∙ ap (λ (k : ℕ). drop k p) e in
    let t = ap (among (get_or p (l.i - 1) 0)) (sym whole) ∙ sym c.is_among.ensures in
    (omega arith, back_not p l.seen l.i s b m _ k (t ∙ c.if-is_among.false) l.invariant.1, marked_keep p l.seen l.i s b m _ k (λ u. true≢false (sym c.if-not-seen-m.false ∙ u)))
