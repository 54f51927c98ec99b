use Rattle.std.proofs.Common.{arith}
use Rattle.zone.specs.Survey.{place_of}
use Rattle.request.proofs.HostLaws.{kept_same, kept_to, makes_to, left_all, left_others, left_none}
use Rattle.request.proofs.host.leave.Goals as goal

pub returns-in-0 : goal.returns-in-0
returns-in-0 c = record { makes = λ n o. kept_to (kept_same (place_of n c.args.e) o) (left_all _ _ _ c.in-0.is) }

pub returns-in-1 : goal.returns-in-1
returns-in-1 c = makes_to c.clear_family.ensures (λ h. left_others _ _ h c.in-1.is)

pub returns-in_default : goal.returns-in_default
returns-in_default c = let d = c.in_default in makes_to c.clear_all.ensures (λ h. left_none _ _ h (λ e. omega arith) (λ e. omega arith))
