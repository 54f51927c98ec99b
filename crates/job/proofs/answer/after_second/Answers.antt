use Rattle.std.proofs.Common.{◌∙◌}
use Rattle.job.specs.Jobs.{after_second}
use Rattle.job.proofs.AnswerLaws.{led_passed, led_failed}
use Rattle.job.proofs.answer.after_second.Goals as goal

pub returns-then-answer-eq-SUCCESS : goal.returns-then-answer-eq-SUCCESS
unfolding after_second
returns-then-answer-eq-SUCCESS c = c.moved.ensures ∙ led_passed _ _ _ _ c.if-answer-eq-SUCCESS.true

pub returns-else-answer-eq-SUCCESS : goal.returns-else-answer-eq-SUCCESS
unfolding after_second
returns-else-answer-eq-SUCCESS c = c.moved-else-answer-eq-SUCCESS.ensures ∙ led_failed _ _ _ _ c.if-answer-eq-SUCCESS.false
