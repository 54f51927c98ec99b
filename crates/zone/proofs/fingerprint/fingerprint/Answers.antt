use Rattle.std.proofs.Common.{◌≡◌, ℕ, ◌+◌, ◌-◌, ◌*◌, ◌/◌, length, sym, ap, ◌∙◌, arith}
use Rattle.zone.specs.Survey.{folded, wrapped, fingerprint_from}
use Rattle.zone.proofs.FingerprintLaws.{more, few_words_is, fingerprint_long, fingerprint_step, fingerprint_end}
use Rattle.zone.proofs.fingerprint.fingerprint.Goals as goal

pub loop-i-init : goal.loop-i-init
loop-i-init c =
    let s = c.args.s.now in
    let n = c.min-words.result in
    let z : n - 0 ≡ n = omega arith in
    let f = few_words_is ((length s - 1) / 8) n (λ h. omega arith) (λ h. omega arith) in
    fingerprint_long s c.if-s-lt8.false ∙ ap (λ (k : ℕ). fingerprint_from k 0 0 0 s) (sym f ∙ sym z)

pub loop-i-preserved : goal.loop-i-preserved
loop-i-preserved c =
    let s = c.args.s.now in
    let l = c.loop-i in
    let i = l.i in
    let left = c.min-words.result - (i + 1) in
    let x = more s (8 * i) l.sum in
    let p : wrapped (l.sum + c.word-w.result) ≡ x = ap (λ (y : ℕ). wrapped (l.sum + y)) c.word-w.ensures in
    let q : wrapped (l.sums + wrapped (l.sum + c.word-w.result)) ≡ wrapped (l.sums + x) = ap (λ (y : ℕ). wrapped (l.sums + y)) p in
    let k : 8 * i + 8 ≡ 8 * (i + 1) = omega arith in
    l.invariant
    ∙ fingerprint_step (c.min-words.result - i) left (8 * i) l.sum l.sums s (omega arith)
    ∙ ap (λ (y : ℕ). fingerprint_from left y x (wrapped (l.sums + x)) s) k
    ∙ ap (λ (y : ℕ). fingerprint_from left (8 * (i + 1)) y (wrapped (l.sums + x)) s) (sym p)
    ∙ ap (λ (y : ℕ). fingerprint_from left (8 * (i + 1)) (wrapped (l.sum + c.word-w.result)) y s) (sym q)

pub returns : goal.returns
returns c =
    let s = c.args.s.now in
    let l = c.loop-i in
    let p : wrapped (l.sum + c.word-last.result) ≡ more s (length s - 8) l.sum = ap (λ (y : ℕ). wrapped (l.sum + y)) c.word-last.ensures in
    c.fold.ensures
    ∙ ap (λ (y : ℕ). folded (wrapped (l.sums + y))) p
    ∙ sym (l.invariant ∙ fingerprint_end (c.min-words.result - l.i) (8 * l.i) l.sum l.sums s (omega arith))
