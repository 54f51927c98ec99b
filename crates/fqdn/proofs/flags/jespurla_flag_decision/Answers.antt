use Rattle.std.proofs.Common.{sym, ◌∙◌}
use Rattle.fqdn.proofs.FlagLaws.{refused_o, refused_both, not_refused, granted, not_granted, with_n, without_n, answered}
use Rattle.fqdn.proofs.flags.jespurla_flag_decision.Goals as goal
use Rattle.fqdn.proofs.flags.jespurla_flag_decision.Goals.{then-client_o-via-then-client_o, then-client_o-via-else-client_o+then-client_s, then-client_n-2+then-honour_n-ne0, else-client_n-2+then-s-client_s, else-client_n-2+else-s-client_s, then-client_s-2+then-honour_s-ne0, else-client_s-2}

pub returns-then-client_o : goal.returns-then-client_o
returns-then-client_o c =
    let a = c.args in
    elim c.then-client_o.branch [
      | then-client_o-via-then-client_o w ↦ refused_o a.flags a.honour_s a.honour_n w.if-client_o.true
      | then-client_o-via-else-client_o+then-client_s w ↦ refused_both a.flags a.honour_s a.honour_n w.if-client_o.false w.if-client_s.true
    ]

pub returns : goal.returns
returns c =
    let a = c.args in
    let j = c.if-client_n-2 in
    answered a.flags a.honour_s a.honour_n j.s j.o j.n _ _ _ c.bit.ensures c.bit-2.ensures c.bit-3.ensures (not_refused a.flags c.if-client_o.false c.if-client_s.either)
    (elim j.branch [
      | then-client_n-2+then-honour_n-ne0 w ↦
          with_n a.flags a.honour_s a.honour_n j.s j.o j.n w.s-is w.o-is w.n-is (granted a.flags 4 a.honour_n w.if-client_n-2.true w.if-honour_n-ne0.true)
      | else-client_n-2+then-s-client_s w ↦
          without_n a.flags a.honour_s a.honour_n j.s j.o j.n w.if-client_s-2.s w.s-is (w.o-is ∙ sym w.if-s-client_s.true) w.n-is (not_granted a.flags 4 a.honour_n w.else-client_n-2.either)
          (elim w.if-client_s-2.branch [
            | then-client_s-2+then-honour_s-ne0 u ↦ u.s-is ∙ sym (granted a.flags 1 a.honour_s u.if-client_s-2.true u.if-honour_s-ne0.true)
            | else-client_s-2 u ↦ u.s-is ∙ sym (not_granted a.flags 1 a.honour_s u.else-client_s-2.either)
          ])
      | else-client_n-2+else-s-client_s w ↦
          without_n a.flags a.honour_s a.honour_n j.s j.o j.n w.if-client_s-2.s w.s-is (w.o-is ∙ sym w.if-s-client_s.false) w.n-is (not_granted a.flags 4 a.honour_n w.else-client_n-2.either)
          (elim w.if-client_s-2.branch [
            | then-client_s-2+then-honour_s-ne0 u ↦ u.s-is ∙ sym (granted a.flags 1 a.honour_s u.if-client_s-2.true u.if-honour_s-ne0.true)
            | else-client_s-2 u ↦ u.s-is ∙ sym (not_granted a.flags 1 a.honour_s u.else-client_s-2.either)
          ])
    ])
