use Rattle.std.proofs.Common.{◌≡◌, ◌∙◌, sym, refl, ap, Bool, true, false, cond}
use mir.Val.{bool_byte}
use Rattle.job.proofs.StageLaws.{ended_staged, unlisted_goes_on}
use Rattle.job.proofs.ended.jespurla_job_has_ended.Goals as goal

byte : (b : Bool) → bool_byte b ≡ cond b 1 0
byte true = refl
byte false = refl

pub returns-in-Ok : goal.returns-in-Ok
returns-in-Ok c = c.from.ensures ∙ byte _ ∙ ap (λ (b : Bool). cond b 1 0) c.is_end.ensures ∙ sym (ended_staged c.args.job c.in-Ok.stage c.in-Ok.ensures)

pub returns-in-Err : goal.returns-in-Err
returns-in-Err c = sym (unlisted_goes_on c.args.job (c.in-Err.ensures c.args.job.count))
