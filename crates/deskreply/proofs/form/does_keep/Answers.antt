use Rattle.std.proofs.Common.{None, Ok, Err, sym, ap, ◌∙◌}
use Rattle.leasepacket.proofs.OccurrenceLaws.{values_at, place_inside, values_broken, values_repeated}
use Rattle.leasepacket.proofs.QueryLaws.{part_length}
use Rattle.deskreply.specs.Reply.{keeps}
use Rattle.deskreply.proofs.form.does_keep.Goals as goal

pub returns-in-Ok-Some : goal.returns-in-Ok-Some
unfolding keeps
returns-in-Ok-Some c =
    let p = c.args.p.now in
    let e = ap Ok (sym c.in-Ok-Some.field-0-is) ∙ c.in-Ok-Some.ensures in
    c.does_fit.ensures ∙ sym (ap (keeps _ _) (values_at p c.args.code _ e) ∙ rw (part_length p _ _ (place_inside p c.args.code _ e)))

pub returns-in-Ok-None : goal.returns-in-Ok-None
unfolding keeps
returns-in-Ok-None c =
    sym (ap (keeps _ _) (values_at c.args.p.now c.args.code None (ap Ok (sym c.in-Ok-None.field-0-is) ∙ c.in-Ok-None.ensures)))

pub returns-in-Err-Broken : goal.returns-in-Err-Broken
unfolding keeps
returns-in-Err-Broken c =
    sym (ap (keeps _ _) (values_broken c.args.p.now c.args.code (ap Err (sym c.in-Err-Broken.field-0-is) ∙ c.in-Err-Broken.ensures)))

pub returns-in-Err-Repeated : goal.returns-in-Err-Repeated
unfolding keeps
returns-in-Err-Repeated c =
    let s = c.args in
    let e = ap Err (sym c.in-Err-Repeated.field-0-is) ∙ c.in-Err-Repeated.ensures in
    sym (ap (keeps s.always (record { least = s.least; most = s.most; unit = s.unit })) (values_repeated s.p.now s.code e).3)
