use Rattle.std.proofs.Common.{length, arith, sym, ap, ◌∙◌}
use Rattle.dname.specs.Name.{limited}
use Rattle.dname.specs.declared.Shape.{Shape}
use Rattle.dname.proofs.NameLaws.{shape_empty, shape_root, shape_over, shape_limited}
use Rattle.dname.proofs.shape_of.Goals as goal

pub returns-in-empty : goal.returns-in-empty
returns-in-empty c = sym (shape_empty _ (omega arith))

pub returns-in-0 : goal.returns-in-0
returns-in-0 c = sym (shape_root _ (omega arith) (omega arith))

pub returns-in_default : goal.returns-in_default
returns-in_default c = sym (shape_over _ c.if-field-gt255.true)

pub returns-in_default-2 : goal.returns-in_default-2
returns-in_default-2 c =
    let s = c.args.field.now in
    c.limited.ensures ∙ ap (λ (t : Shape). limited t (length s)) c.labels.ensures ∙ sym (shape_limited s (omega arith) (λ e. omega arith))
