use Rattle.std.proofs.Common.{sym, ◌∙◌, ap}
use Rattle.entries.specs.Entries.{is_orderly, are_moments}
use Rattle.entries.proofs.FormLaws.{twice, no_moments, once, no_more}
use Rattle.serverlist.specs.Servers.{servers}
use Rattle.serverlist.proofs.form.is_orderly.Goals as goal
use Rattle.serverlist.proofs.form.is_orderly.Goals.{then-is_held-via-then-is_held, then-is_held-via-else-is_held+then-not-are_moments}

pub returns-then-is_held : goal.returns-then-is_held
returns-then-is_held c =
    let h = c.loop-e.invariant ∙ ap (is_orderly servers) c.in-Some.ensures.cases.0 in
    elim c.then-is_held.branch [
      | then-is_held-via-then-is_held w ↦ sym (h ∙ twice servers _ _ (sym c.is_held.ensures ∙ w.if-is_held.true))
      | then-is_held-via-else-is_held+then-not-are_moments w ↦ sym (h ∙ no_moments servers _ _ (sym (w.are_moments.ensures ∙ ap are_moments w.moments_of.ensures) ∙ w.if-not-are_moments.true))
    ]

pub loop-e-preserved : goal.loop-e-preserved
loop-e-preserved c =
    let h = c.loop-e.invariant ∙ ap (is_orderly servers) c.in-Some.ensures.cases.0 in
    h ∙ once servers _ _ (sym c.is_held.ensures ∙ c.if-is_held.false) (sym (c.are_moments.ensures ∙ ap are_moments c.moments_of.ensures) ∙ c.if-not-are_moments.false)

pub returns : goal.returns
returns c = sym (c.loop-e.invariant ∙ no_more servers _ c.in_default.ensures.cases)
