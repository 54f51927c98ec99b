use Rattle.std.proofs.Common.{ap, sym, append-nil, ◌∷◌, drop}
use Rattle.octets.proofs.WriteLaws.{laid_nothing}
use Rattle.fqdn.specs.Answer.{refused, octets_of, result_of, Put}
use Rattle.fqdn.proofs.AnswerLaws.{answered_by}
use Rattle.fqdn.proofs.RoomLaws.{whole_room, completed_room}
use Rattle.fqdn.proofs.answer.jespurla_name_option_answer.Goals as goal

pub put_name-requires : goal.put_name-requires
put_name-requires c = whole_room _ _ _ _ _ _ (sym (rw c.in-Ok-Whole.field-0-is at c.in-Ok-Whole.ensures))

pub put_name-requires-in-Ok-Completed : goal.put_name-requires-in-Ok-Completed
put_name-requires-in-Ok-Completed c = completed_room _ _ _ _ _ _ (sym (rw c.in-Ok-Completed.field-0-is at c.in-Ok-Completed.ensures))

pub returns-in-Err : goal.returns-in-Err
unfolding octets_of result_of
returns-in-Err c = answered_by _ _ _ _ _ _ _ _ (sym c.in-Err.ensures) (ap refused c.into.ensures) (sym (laid_nothing _))

pub returns-in-Ok-Whole : goal.returns-in-Ok-Whole
unfolding octets_of result_of
returns-in-Ok-Whole c =
    let w : Put (c.in-Ok-Whole.flags ∷ drop 1 c.args.value.now) c.args.reply.now c.put_name.result c.put_name.new.reply = rw append-nil at c.put_name.ensures in
    answered_by _ _ _ _ _ _ _ _ (sym (rw c.in-Ok-Whole.field-0-is at c.in-Ok-Whole.ensures)) w.result w.buffer

pub returns-in-Ok-Completed : goal.returns-in-Ok-Completed
unfolding octets_of result_of
returns-in-Ok-Completed c =
    let w = c.put_name-in-Ok-Completed.ensures in
    answered_by _ _ _ _ _ _ _ _ (sym (rw c.in-Ok-Completed.field-0-is at c.in-Ok-Completed.ensures)) w.result w.buffer
