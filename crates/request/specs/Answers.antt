-- What inner functions answer and refuse by, and the numbers of that. No promise of an exported call cites these.
use Rattle.std.specs.Prelude.{ℕ, Result, Ok, Err}
use Rattle.update.specs.Rules.{Answer, success, NXDOMAIN, YXDOMAIN, YXRRSET, NXRRSET, no_room}
use Rattle.request.specs.declared.answer.Answer.{Answer as Said}
use Rattle.request.specs.declared.answer.Answer.TheVariants.{Success, NxDomain, YxDomain, YxRrset, NxRrset, NoRoom}
use Rattle.request.specs.declared.refusal.Refusal.{Refusal}
use Rattle.request.specs.declared.refusal.Refusal.TheVariants.{Form, Number, Name}

-- the rules' answer
abbrev pub means : Said → Answer
means Success = success
means NxDomain = NXDOMAIN
means YxDomain = YXDOMAIN
means YxRrset = YXRRSET
means NxRrset = NXRRSET
means NoRoom = no_room

abbrev pub refusal_number : Refusal → ℕ
refusal_number Form = 17
refusal_number Number = 18
refusal_number Name = 11

-- the refusal by its number, 0 where there is none
abbrev pub refused : {A : Type 0} → Result A Refusal → ℕ
refused (Ok a) = 0
refused (Err r) = refusal_number r
