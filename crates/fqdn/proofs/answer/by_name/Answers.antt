use Rattle.std.proofs.Common.{sym}
use Rattle.fqdn.specs.Answer.{by_name}
use Rattle.fqdn.proofs.AnswerLaws.{name_over, name_completed}
use Rattle.fqdn.proofs.answer.by_name.Goals as goal

pub returns-then-name-suffix-gt255 : goal.returns-then-name-suffix-gt255
returns-then-name-suffix-gt255 c = rw (← c.in-Partial.ensures) (sym (name_over _ _ _ c.if-name-suffix-gt255.true))

pub returns-in-Empty : goal.returns-in-Empty
unfolding by_name
returns-in-Empty c = rw (← c.in-Empty.ensures)

pub returns-in-Malformed : goal.returns-in-Malformed
unfolding by_name
returns-in-Malformed c = rw (← c.in-Malformed.ensures)

pub returns-in-Full : goal.returns-in-Full
unfolding by_name
returns-in-Full c = rw (← c.in-Full.ensures)

pub returns-else-name-suffix-gt255 : goal.returns-else-name-suffix-gt255
returns-else-name-suffix-gt255 c = rw (← c.in-Partial.ensures) (sym (name_completed _ _ _ c.if-name-suffix-gt255.false))
