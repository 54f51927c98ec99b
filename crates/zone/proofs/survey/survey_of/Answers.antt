use Rattle.std.proofs.Common.{◌≡◌, ℕ, ◌<◌, ◌≤◌, true, not, length, get_or, sym, ap, ◌∙◌, arith, eq-eqb, ne_eqb}
use Rattle.std.specs.Prelude.{Option}
use Rattle.std.specs.Option.{unwrap_or}
use Rattle.octets.specs.Count.{distinct}
use Rattle.dname.specs.Name.{name_of}
use Rattle.zone.specs.Meaning.{used as is_used, keys}
use Rattle.zone.proofs.WalkLaws.{walk_free, walk_used, walk_clear, walk_end}
use Rattle.zone.proofs.SurveyLaws.{blank, order_used, named_used, get_d_any}
use Rattle.zone.proofs.survey.survey_of.Goals as goal
use Rattle.zone.proofs.survey.survey_of.Goals.{then-not-repeats, else-not-repeats}

pub loop-i-preserved-then-e-eq0 : goal.loop-i-preserved-then-e-eq0
loop-i-preserved-then-e-eq0 c =
    let l = c.loop-i in
    let es = c.args.z.now.entries in
    let k : l.i < 64 = omega arith in
    walk_free es (name_of c.args.n.now) l.fingerprints l.used l.inorder l.found l.free l.i l.invariant k (unfold is_used in ap not (eq-eqb _ _ c.if-e-eq0.true))

pub loop-i-preserved : goal.loop-i-preserved
loop-i-preserved c =
    let l = c.loop-i in
    let es = c.args.z.now.entries in
    let h : l.i < length es = let w = l.invariant in omega arith in
    let k : l.i < 64 = omega arith in
    let u : is_used (get_or es l.i blank) ≡ true = unfold is_used in ap not (ne_eqb _ _ c.if-e-eq0.false) in
    let fine = order_used es blank l.i h u _ _ _ c.is_in_order-fine.ensures c.are_full-full.ensures c.are_sets_sound-sets.ensures in
    let hit = named_used es blank l.i h u (name_of c.args.n.now) _ c.is_same-named.ensures in
    walk_used es (name_of c.args.n.now) l.fingerprints l.used l.inorder l.found l.free l.i l.invariant k _ _ _ _ _ u c.fingerprint_of-own.ensures fine hit c.both-inorder.ensures c.choose-found.ensures

pub returns : goal.returns
returns c =
    let l = c.loop-i in
    let es = c.args.z.now.entries in
    let h : 64 ≤ l.i = omega arith in
    let clear = walk_clear es (name_of c.args.n.now) l.fingerprints l.used l.inorder l.found l.free l.i l.invariant h in
    let apart : c.if-not-repeats.distinct ≡ distinct (keys es) =
    elim c.if-not-repeats.branch [ then-not-repeats w ↦ w.distinct-is ∙ ap not w.if-not-repeats.true ∙ sym (clear (sym c.repeats-repeats.ensures ∙ w.if-not-repeats.true)) | else-not-repeats w ↦ w.distinct-is ∙ w.distinct_names-distinct.ensures ] in
    record {
      surveyed = walk_end es (name_of c.args.n.now) l.fingerprints l.used l.inorder l.found l.free l.i l.invariant h _ apart;
      entry_is = λ d p f.
          let w = l.invariant in
          ap (λ (m : ℕ). get_or es m blank) (c.unwrap_or.ensures ∙ ap (λ (o : Option ℕ). unwrap_or o 0) f) ∙ get_d_any es p blank d (omega (arith, w.inside p f));
    }
