use Rattle.std.proofs.Common.{ℕ, ap, sym, ◌∙◌}
use Rattle.serverlist.specs.declared.ServerList.{ServerList}
use Rattle.rdnss.specs.ServerList.{answer}
use Rattle.rdnss.proofs.CallLaws.{numbered, refusing, accepting}
use Rattle.rdnss.proofs.jespurla_server_list.Goals as goal

pub returns-in_default : goal.returns-in_default
returns-in_default c =
    let s = c.args in
    let h = c.in_default.ensures in
    ap (λ (l : ServerList). answer 0 l) h.1 ∙ accepting s.list s.clock s.router s.area.now h.0

pub returns-in-Err : goal.returns-in-Err
returns-in-Err c =
    let s = c.args in
    let h = c.in-Err.ensures in
    let e = c.into.ensures ∙ sym h.0 in
    rw h.1 (ap (λ (n : ℕ). answer n s.list) e ∙ refusing s.list s.clock s.router s.area.now (λ z. numbered c.in-Err.refusal (sym h.0 ∙ z)))
