use borrow.Author.Tests.{ne_eqb}
use Rattle.zonesame.proofs.SameLaws.{left_length, right_length, right_zone, other_number, as_many}
use Rattle.zonesame.proofs.is_same.Goals as goal

pub names_in-requires : goal.names_in-requires
names_in-requires c = left_length _ _ c.requires

pub names_in-requires-2 : goal.names_in-requires-2
names_in-requires-2 c = right_length _ _ c.requires

pub all_stand-requires : goal.all_stand-requires
all_stand-requires c = (left_length _ _ c.requires, right_zone _ _ c.requires)

pub returns-then-names_in : goal.returns-then-names_in
returns-then-names_in c = as_many _ _ c.requires _ _ c.names_in.ensures c.names_in-2.ensures c.if-names_in.true _ c.all_stand.ensures

pub returns-else-names_in : goal.returns-else-names_in
returns-else-names_in c = rw (ne_eqb _ _ c.if-names_in.false) (other_number _ _ c.requires _ _ c.names_in.ensures c.names_in-2.ensures c.if-names_in.false)
