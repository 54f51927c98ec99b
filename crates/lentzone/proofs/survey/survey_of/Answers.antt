use Rattle.std.proofs.Common.{◌<◌, ◌≤◌, not, map, length, get_or, refl, sym, ap, ◌∙◌, arith}
use Rattle.std.specs.Prelude.{Some, None}
use lib.ListN.{length-map}
use Rattle.zone.specs.declared.entry.Entry.{Entry}
use Rattle.zone.specs.Meaning.{key_of, in_order}
use Rattle.zone.specs.Survey.{fingerprint_words, named}
use Rattle.zone.proofs.FingerprintLaws.{fingerprint_key}
use Rattle.zone.proofs.SurveyLaws.{blank}
use Rattle.zone.proofs.WalkLaws.{walk_start, walk_free, walk_used, walk_clear, walk_end}
use Rattle.lentzone.specs.Decode.{entry_in}
use Rattle.lentzone.proofs.DecodeLaws.{row_entry, row_used, row_free, order_seen}
use Rattle.lentzone.proofs.FreeLaws.{with_free}
use Rattle.lentzone.proofs.survey.survey_of.Goals as goal

pub loop-i-init : goal.loop-i-init
loop-i-init c = (None, walk_start (map entry_in c.args.places.now) c.args.n.now _ (length-map c.args.places.now entry_in ∙ c.requires) refl)

pub loop-i-preserved-then-e-eq0 : goal.loop-i-preserved-then-e-eq0
loop-i-preserved-then-e-eq0 c =
    let rs = c.args.places.now in
    let l = c.loop-i in
    let h : l.i < length rs = omega arith in
    let k : l.i < 64 = omega arith in
    (Some l.i, walk_free (map entry_in rs) c.args.n.now l.fingerprints l.used l.inorder l.found l.invariant.0 l.i l.invariant.1 k (row_free rs l.i h _ c.if-e-eq0.true))

pub loop-i-preserved : goal.loop-i-preserved
loop-i-preserved c =
    let rs = c.args.places.now in
    let n = c.args.n.now in
    let l = c.loop-i in
    let h : l.i < length rs = omega arith in
    let k : l.i < 64 = omega arith in
    let r = c.look_at-l.ensures in
    let u = row_used rs l.i h _ c.if-e-eq0.false in
    let fine = order_seen (get_or (map entry_in rs) l.i blank) _ u (r.order_is ∙ ap in_order (sym (row_entry rs l.i h _))) in
    let hit = r.named_is ∙ ap (named n) (sym (row_entry rs l.i h _)) in
    let fingerprint = r.fingerprint_is ∙ fingerprint_key _ ∙ ap (λ (e : Entry). fingerprint_words (key_of e)) (sym (row_entry rs l.i h _)) in
    (l.invariant.0, walk_used (map entry_in rs) n l.fingerprints l.used l.inorder l.found l.invariant.0 l.i l.invariant.1 k _ _ _ _ _ u fingerprint fine hit c.both-inorder.ensures c.choose-found.ensures)

pub returns-then-not-repeats : goal.returns-then-not-repeats
returns-then-not-repeats c =
    let es = map entry_in c.args.places.now in
    let l = c.loop-i in
    let h : 64 ≤ l.i = omega arith in
    let clear = walk_clear es c.args.n.now l.fingerprints l.used l.inorder l.found l.invariant.0 l.i l.invariant.1 h in
    let t = c.if-not-repeats.true in
    let w = walk_end es c.args.n.now l.fingerprints l.used l.inorder l.found l.invariant.0 l.i l.invariant.1 h _ (ap not t ∙ sym (clear (sym c.repeats-repeats.ensures ∙ t))) in
    with_free es c.args.n.now _ w _ c.free_in-free.ensures

pub returns-else-not-repeats : goal.returns-else-not-repeats
returns-else-not-repeats c =
    let es = map entry_in c.args.places.now in
    let l = c.loop-i in
    let h : 64 ≤ l.i = omega arith in
    let w = walk_end es c.args.n.now l.fingerprints l.used l.inorder l.found l.invariant.0 l.i l.invariant.1 h _ c.are_distinct-distinct.ensures in
    with_free es c.args.n.now _ w _ c.free_in-free.ensures
