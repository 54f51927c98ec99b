use Rattle.job.specs.Meaning.{stage_number, fresh_remove}
use Rattle.job.proofs.fresh.jespurla_new_remove.Goals as goal

pub returns : goal.returns
unfolding fresh_remove stage_number
returns c = rw (c.new_job.ensures, c.check-checked.ensures, c.number.ensures)
