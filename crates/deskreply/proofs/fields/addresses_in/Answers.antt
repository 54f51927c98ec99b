use Rattle.std.proofs.Common.{◌∙◌, arith}
use Rattle.deskreply.proofs.ReplyLaws.{addresses_none, addresses_once, only_short}
use Rattle.deskreply.proofs.fields.addresses_in.Goals as goal

pub overflow_cast-result : goal.overflow_cast-result
overflow_cast-result c = let h = only_short _ c.in-Some.ensures c.requires in omega (arith, h)

pub numbers_in-requires : goal.numbers_in-requires
numbers_in-requires c = only_short _ c.in-Some.ensures c.requires

pub returns-in-Some : goal.returns-in-Some
returns-in-Some c = addresses_once _ c.in-Some.ensures _ c.numbers_in.ensures

pub returns-in-None : goal.returns-in-None
returns-in-None c = c.no_addresses.ensures ∙ addresses_none _ c.in-None.ensures
