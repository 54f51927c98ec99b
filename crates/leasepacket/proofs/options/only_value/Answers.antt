use Rattle.std.proofs.Common.{ℕ, List, [], ◌∷◌, None, Ok, ap, sym, ◌∙◌, arith}
use Rattle.leasepacket.specs.Options.{only_of}
use Rattle.leasepacket.proofs.OccurrenceLaws.{slice_is, values_at, place_inside, not_only}
use Rattle.leasepacket.proofs.options.only_value.Goals as goal

pub overflow_add-result : goal.overflow_add-result
overflow_add-result c =
    let h = place_inside c.args.s.now c.args.code _ (ap Ok (sym c.in-Ok-Some.field-0-is) ∙ c.in-Ok-Some.ensures) in
    omega (arith, h)

pub slice_bounds-result-end : goal.slice_bounds-result-end
slice_bounds-result-end c = place_inside c.args.s.now c.args.code _ (ap Ok (sym c.in-Ok-Some.field-0-is) ∙ c.in-Ok-Some.ensures)

pub returns-in-Ok-Some : goal.returns-in-Ok-Some
returns-in-Ok-Some c =
    values_at c.args.s.now c.args.code _ (ap Ok (sym c.in-Ok-Some.field-0-is) ∙ c.in-Ok-Some.ensures)
    ∙ ap (λ (v : List ℕ). v ∷ []) (sym (slice_is c.args.s.now c.in-Ok-Some.place.at c.in-Ok-Some.place.len))

pub returns-in-Ok-None : goal.returns-in-Ok-None
returns-in-Ok-None c = ap only_of (values_at c.args.s.now c.args.code None (ap Ok (sym c.in-Ok-None.field-0-is) ∙ c.in-Ok-None.ensures))

pub returns-in-Err : goal.returns-in-Err
returns-in-Err c = not_only c.args.s.now c.args.code _ c.in-Err.ensures
