use Rattle.job.specs.Meaning.{stage_number, fresh_add}
use Rattle.job.proofs.fresh.jespurla_new_add.Goals as goal

pub returns : goal.returns
unfolding fresh_add stage_number
returns c = rw (c.new_job.ensures, c.check-checked.ensures, c.number.ensures)
