use Rattle.std.proofs.Common.{◌∙◌}
use Rattle.zonesame.proofs.SameLaws.{survey_broken, survey_rest}
use Rattle.zonesame.proofs.is_zone.Goals as goal

pub returns-then-s : goal.returns-then-s
returns-then-s c = survey_rest _ _ _ c.survey_in-s.ensures c.if-s.true

pub returns-else-s : goal.returns-else-s
returns-else-s c = c.if-s.false ∙ survey_broken _ _ _ c.survey_in-s.ensures c.if-s.false
