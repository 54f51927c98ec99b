use Rattle.std.proofs.Common.{None, Ok, Err, sym, ap, ◌∙◌}
use Rattle.leasepacket.specs.Requested.{list_fits}
use Rattle.leasepacket.proofs.OccurrenceLaws.{values_at, place_inside, values_broken, values_repeated}
use Rattle.leasepacket.proofs.QueryLaws.{part_length}
use Rattle.leasepacket.proofs.requested.does_list_fit.Goals as goal

pub returns-in-Ok-Some : goal.returns-in-Ok-Some
returns-in-Ok-Some c =
    let p = c.args.p.now in
    let e = ap Ok (sym c.in-Ok-Some.field-0-is) ∙ c.in-Ok-Some.ensures in
    sym (ap list_fits (values_at p 55 _ e) ∙ rw (part_length p _ _ (place_inside p 55 _ e)))

pub returns-in-Ok-None : goal.returns-in-Ok-None
returns-in-Ok-None c = sym (ap list_fits (values_at c.args.p.now 55 None (ap Ok (sym c.in-Ok-None.field-0-is) ∙ c.in-Ok-None.ensures)))

pub returns-in-Err-Broken : goal.returns-in-Err-Broken
returns-in-Err-Broken c = sym (ap list_fits (values_broken c.args.p.now 55 (ap Err (sym c.in-Err-Broken.field-0-is) ∙ c.in-Err-Broken.ensures)))

pub returns-in-Err-Repeated : goal.returns-in-Err-Repeated
returns-in-Err-Repeated c =
    sym (ap list_fits (values_repeated c.args.p.now 55 (ap Err (sym c.in-Err-Repeated.field-0-is) ∙ c.in-Err-Repeated.ensures)).3)
