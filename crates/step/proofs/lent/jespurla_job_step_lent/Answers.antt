use Rattle.step.proofs.LentLaws.{kept_in}
use Rattle.step.proofs.lent.jespurla_job_step_lent.Goals as goal

pub returns : goal.returns
returns c = kept_in c.args.octets.now c.args.job c.in-Ok.stage c.send-sent.result c.onward.new.job _ c.in-Ok.ensures c.send-sent.ensures c.onward.ensures
