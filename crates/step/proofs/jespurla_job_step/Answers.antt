use Rattle.request.specs.Inner.{with_zone}
use Rattle.step.proofs.StepLaws.{step_kept}
use Rattle.step.proofs.jespurla_job_step.Goals as goal

pub returns : goal.returns
returns c = step_kept c.args.zone c.args.job c.in-Ok.stage (with_zone _ c.send-sent.result) c.onward.new.job c.in-Ok.ensures c.send-sent.ensures c.onward.ensures
