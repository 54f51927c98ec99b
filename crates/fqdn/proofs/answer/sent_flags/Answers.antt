use Rattle.std.proofs.Common.{arith, ◌≡◌, ◌∙◌, sym, ap}
use Rattle.fqdn.specs.Flags.{flag_answer}
use Rattle.fqdn.specs.Answer.{sent_flags}
use Rattle.fqdn.specs.declared.flags.FlagAnswer.{FlagAnswer}
use Rattle.fqdn.proofs.FlagLaws.{flags_most}
use Rattle.fqdn.proofs.AnswerLaws.{sends_flags, sends_none}
use Rattle.fqdn.proofs.answer.sent_flags.Goals as goal

pub returns-then-decision-ne0 : goal.returns-then-decision-ne0
returns-then-decision-ne0 c = sym (sends_none _ c.if-decision-ne0.true) ∙ ap sent_flags c.jespurla_flag_decision-decision.ensures

pub overflow_cast-result : goal.overflow_cast-result
overflow_cast-result c =
    let a = c.args in
    let d = c.jespurla_flag_decision-decision in
    let e : d.result.flags ≡ (flag_answer a.flags a.honour_s a.honour_n).flags = ap (λ (k : FlagAnswer). k.flags) d.ensures in
    omega (arith, flags_most a.flags a.honour_s a.honour_n)

pub returns : goal.returns
returns c = sym (sends_flags _ c.if-decision-ne0.false) ∙ ap sent_flags c.jespurla_flag_decision-decision.ensures
