use Rattle.std.proofs.Common.{arith}
use Rattle.octets.proofs.WriteLaws.{nothing, written, more}
use Rattle.deskquery.proofs.QueryLaws.{id_most, no_option}
use Rattle.deskquery.proofs.write.Query.put_id.Goals as goal

pub returns-in_default : goal.returns-in_default
returns-in_default c = rw (no_option _ c.in_default.not-ClientId) nothing

pub overflow_cast-id : goal.overflow_cast-id
overflow_cast-id c = let h = rw c.in-ClientId.is at c.args.self.now.taken in let k = id_most c.in-ClientId.id.now h in omega (arith, k)

pub returns : goal.returns
returns c = rw c.in-ClientId.is (more (written c.put_octets-a.ensures) c.put_octets.ensures)
