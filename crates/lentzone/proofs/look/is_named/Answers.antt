use Rattle.std.proofs.Common.{ℕ, List, ap, ◌∙◌, eq-eqb, ne_eqb}
use Rattle.dname.specs.Name.{same_name}
use Rattle.zone.specs.Meaning.{used}
use Rattle.zone.specs.Survey.{named}
use Rattle.lentzone.proofs.look.is_named.Goals as goal

pub returns-then-e-ne0 : goal.returns-then-e-ne0
unfolding used named
returns-then-e-ne0 c = simp (ne_eqb _ _ c.if-e-ne0.true) (c.same_name.ensures ∙ ap (λ (l : List ℕ). same_name l c.args.n.now) c.name_in.ensures)

pub returns-else-e-ne0 : goal.returns-else-e-ne0
unfolding used named
returns-else-e-ne0 c = simp (eq-eqb _ _ c.if-e-ne0.false)
