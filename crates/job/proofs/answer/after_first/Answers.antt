use Rattle.std.proofs.Common.{◌∙◌}
use Rattle.job.specs.Jobs.{after_first}
use Rattle.job.proofs.AnswerLaws.{led_passed, led_failed}
use Rattle.job.proofs.answer.after_first.Goals as goal

pub returns-then-answer-eq-SUCCESS : goal.returns-then-answer-eq-SUCCESS
unfolding after_first
returns-then-answer-eq-SUCCESS c = c.moved.ensures ∙ led_passed _ _ _ _ c.if-answer-eq-SUCCESS.true

pub returns-else-answer-eq-SUCCESS : goal.returns-else-answer-eq-SUCCESS
unfolding after_first
returns-else-answer-eq-SUCCESS c = c.moved-else-answer-eq-SUCCESS.ensures ∙ led_failed _ _ _ _ c.if-answer-eq-SUCCESS.false
