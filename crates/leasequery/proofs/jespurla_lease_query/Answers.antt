use Rattle.std.proofs.Common.{ℕ, sym, ap, ◌∙◌, subst}
use Rattle.octets.proofs.WriteLaws.{laid_nothing}
use Rattle.leasetable.specs.declared.client.Key.{Key}
use Rattle.leasetable.specs.Folds.{looked}
use Rattle.leasequery.specs.Answer.{Outcome, refusal, told}
use Rattle.leasequery.specs.Promise.{Gives}
use Rattle.leasequery.specs.Stages.{asked_or_refused}
use Rattle.leasequery.proofs.AnswerLaws.{comes_to, comes_to_refusal}
use Rattle.leasequery.proofs.jespurla_lease_query.Goals as goal

pub returns-in-Ok : goal.returns-in-Ok
returns-in-Ok c =
    let a = sym (ap (asked_or_refused c.args.query.now) c.in-Ok.is) ∙ c.ask.ensures in
    let f = c.look-found.ensures ∙ ap (λ (k : Key). looked c.args.clock k c.args.table.now) c.key_for.ensures in
    let e = comes_to c.args.clock c.args.table.now c.args.server c.args.query.now c.args.reply.now c.start.ensures c.scan-shape.ensures c.in-Ok.asked a f in
    subst (λ (o : Outcome). Gives o c.args.reply.now c.conclude.result c.conclude.new.buf) e c.conclude.ensures

pub returns-in-Err : goal.returns-in-Err
returns-in-Err c =
    let a = sym (ap (asked_or_refused c.args.query.now) c.in-Err.is) ∙ c.ask.ensures in
    let e = comes_to_refusal c.args.clock c.args.table.now c.args.server c.args.query.now c.args.reply.now c.start.ensures c.scan-shape.ensures a in
    subst (λ (o : Outcome). Gives o c.args.reply.now (record { refusal = c.from.result; kind = 0; length = 0 }) c.args.reply.now) e
    (record { answers = ap (λ (n : ℕ). told (refusal n)) c.from.ensures; writes = sym (laid_nothing c.args.reply.now) })
