use Rattle.octets.proofs.WriteLaws.{then, more}
use Rattle.deskquery.proofs.QueryLaws.{query_parts, query_short, wrote}
use Rattle.deskquery.proofs.write.Query.put.Goals as goal

pub returns : goal.returns
returns c =
    let q = c.args.self.now in
    wrote c.put_octet.new.buf c.put_octet.result (query_parts q.xid q.giaddr q.key) c.requires (query_short q.xid q.giaddr q.key q.taken)
    (more (then (then (rw c.fixed.ensures at c.put-a.ensures) c.put_type-b.ensures) c.put_id-c.ensures) c.put_octet.ensures)
