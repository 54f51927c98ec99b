use Rattle.std.proofs.Common.{◌≡◌, ◌∙◌, arith}
use Rattle.std.proofs.lemmas.Grind.{common_steps}
use Rattle.lentzone.proofs.FormLaws.{survey_zone}
use Rattle.request.specs.Answers.{refused}
use Rattle.zonefind.specs.Find.{find_refusal}
use Rattle.zonefind.proofs.FindLaws.{refusal_is_lem, located, located_refused}
use Rattle.zonefind.proofs.locate.Goals as goal

pub returns-in_err-check : goal.returns-in_err-check
returns-in_err-check c =
    let s = c.survey_in-s in
    let e : refused c.check.result ≡ find_refusal c.args.octets.now c.args.name.now = c.check.ensures ∙ refusal_is_lem _ _ _ _ (survey_zone _ _ _ s.ensures) c.is_full_name.ensures in
    let r : refused c.from_residual.result ≡ refused c.check.result = grind (arith, common_steps) in
    located_refused _ _ _ c.from_residual.ensures.0 (r ∙ e)

pub returns : goal.returns
returns c =
    let s = c.survey_in-s in
    let e : refused c.check.result ≡ find_refusal c.args.octets.now c.args.name.now = c.check.ensures ∙ refusal_is_lem _ _ _ _ (survey_zone _ _ _ s.ensures) c.is_full_name.ensures in
    let r : 0 ≡ refused c.check.result = grind (arith, common_steps) in
    located _ _ s.result s.ensures (r ∙ e)
