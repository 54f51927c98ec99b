use Rattle.std.proofs.Common.{◌≡◌, ℕ, ◌∷◌, List, map, not, sym, ap, ◌∙◌, rules, eq-eqb, ne_eqb}
use lib.ListN.{length-map}
use Rattle.dname.specs.Name.{key}
use Rattle.octets.specs.Count.{member}
use Rattle.zone.specs.Meaning.{used, keys}
use Rattle.zone.proofs.SurveyLaws.{pair_found, pair_not, pair_free, pair_end}
use Rattle.lentzone.specs.Decode.{entry_in}
use Rattle.lentzone.proofs.names.are_distinct.Goals as goal
use Rattle.lentzone.proofs.names.are_distinct.Goals.{else-e-ne0-via-then-e-ne0+else-is_among, else-e-ne0-via-else-e-ne0}

pub returns-then-is_among : goal.returns-then-is_among
unfolding used
returns-then-is_among c =
    let e = c.in-Some.e.now in
    let behind = c.in-Some.behind.now in
    let q : c.loop-e.rest.now ≡ e ∷ behind = search rules in
    let m = ap (λ (l : List ℕ). member (key l) (keys (map entry_in behind))) (sym c.name_in.ensures) ∙ sym c.is_among.ensures ∙ c.if-is_among.true in
    pair_found _ _ c.loop-e.invariant (entry_in e) (map entry_in behind) (ap (map entry_in) q) (ap not (ne_eqb _ _ c.if-e-ne0.true)) m

pub loop-e-preserved : goal.loop-e-preserved
unfolding used
loop-e-preserved c =
    let e = c.in-Some.e.now in
    let behind = c.in-Some.behind.now in
    let q : c.loop-e.rest.now ≡ e ∷ behind = search rules in
    elim c.else-e-ne0.branch [
      | else-e-ne0-via-then-e-ne0+else-is_among w ↦
          let m = ap (λ (l : List ℕ). member (key l) (keys (map entry_in behind))) (sym w.name_in.ensures) ∙ sym w.is_among.ensures ∙ w.if-is_among.false in
          pair_not _ _ c.loop-e.invariant (entry_in e) (map entry_in behind) (ap (map entry_in) q) (ap not (ne_eqb _ _ w.if-e-ne0.true)) m
      | else-e-ne0-via-else-e-ne0 w ↦ pair_free _ _ c.loop-e.invariant (entry_in e) (map entry_in behind) (ap (map entry_in) q) (ap not (eq-eqb _ _ w.if-e-ne0.false))
    ]

pub returns : goal.returns
returns c = pair_end _ _ c.loop-e.invariant (length-map c.loop-e.rest.now entry_in ∙ c.in_default.ensures.cases)
