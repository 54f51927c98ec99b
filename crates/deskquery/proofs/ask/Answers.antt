use Rattle.std.proofs.Common.{sym, ◌∙◌}
use Rattle.deskquery.specs.Promise.{key_of, number_of}
use Rattle.deskquery.proofs.QueryLaws.{accepts_room, accepts_key, key_refusal, not_zero, promised_refusal, promised_query}
use Rattle.deskquery.proofs.ask.Goals as goal

pub invariant_of-put : goal.invariant_of-put
invariant_of-put c = record { taken = sym c.is_taken.ensures ∙ accepts_key _ _ _ (sym c.in-Ok.ensures) }

pub put-requires : goal.put-requires
put-requires c = accepts_room _ _ _ (sym c.in-Ok.ensures)

pub returns-in-Ok : goal.returns-in-Ok
returns-in-Ok c =
    let s = c.args in
    rw c.written.ensures (promised_query s.xid s.giaddr (key_of s.key) s.query.now c.put.new.buf c.put.result (key_refusal s.key) (sym (rw c.is_taken.ensures at c.in-Ok.ensures)) c.put.ensures)

pub returns-in-Err : goal.returns-in-Err
returns-in-Err c =
    let s = c.args in
    let why = c.in-Err.refusal in
    rw c.refused.ensures (promised_refusal s.xid s.giaddr (key_of s.key) s.query.now (number_of why) (rw c.is_taken.ensures at c.in-Err.ensures) (not_zero why))
