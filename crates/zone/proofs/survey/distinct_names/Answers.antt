use Rattle.std.proofs.Common.{not, sym, ap, ◌∙◌, rules, eq-eqb, ne_eqb}
use Rattle.zone.specs.Meaning.{used}
use Rattle.zone.proofs.SurveyLaws.{pair_found, pair_not, pair_free, pair_end}
use Rattle.zone.proofs.survey.distinct_names.Goals as goal
use Rattle.zone.proofs.survey.distinct_names.Goals.{else-e-ne0-via-then-e-ne0+else-is_among, else-e-ne0-via-else-e-ne0}

pub returns-then-is_among : goal.returns-then-is_among
unfolding used
returns-then-is_among c = pair_found _ _ c.loop-e.invariant c.in-Some.e.now c.in-Some.behind.now (search rules) (ap not (ne_eqb _ _ c.if-e-ne0.true)) (sym c.is_among.ensures ∙ c.if-is_among.true)

pub loop-e-preserved : goal.loop-e-preserved
unfolding used
loop-e-preserved c =
    elim c.else-e-ne0.branch [
      | else-e-ne0-via-then-e-ne0+else-is_among w ↦ pair_not _ _ c.loop-e.invariant c.in-Some.e.now c.in-Some.behind.now (search rules) (ap not (ne_eqb _ _ w.if-e-ne0.true)) (sym w.is_among.ensures ∙ w.if-is_among.false)
      | else-e-ne0-via-else-e-ne0 w ↦ pair_free _ _ c.loop-e.invariant c.in-Some.e.now c.in-Some.behind.now (search rules) (ap not (eq-eqb _ _ w.if-e-ne0.false))
    ]

pub returns : goal.returns
returns c = pair_end _ _ c.loop-e.invariant c.in_default.ensures.cases
