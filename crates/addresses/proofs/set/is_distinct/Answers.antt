use Rattle.std.proofs.Common.{rules}
use Rattle.addresses.proofs.ListLaws.{distinct_hit, distinct_miss, distinct_end}
use Rattle.addresses.proofs.set.is_distinct.Goals as goal

pub returns-then-is_among : goal.returns-then-is_among
returns-then-is_among g c = distinct_hit g.A.Addr.octets_of _ _ c.loop-a.invariant (search rules) c.is_among.ensures c.if-is_among.true

pub loop-a-preserved : goal.loop-a-preserved
loop-a-preserved g c = distinct_miss g.A.Addr.octets_of _ _ c.loop-a.invariant (search rules) c.is_among.ensures c.if-is_among.false

pub returns : goal.returns
returns g c = distinct_end g.A.Addr.octets_of _ _ c.loop-a.invariant c.in_default.ensures.cases
