use Rattle.std.proofs.Common.{ℕ, List, get_or, ◌∙◌, ap}
use Rattle.zone.specs.Survey.{place_of, records_of}
use Rattle.lentzone.specs.Decode.{part, entry_in}
use Rattle.lentzone.proofs.decode.entry_in.Goals as goal

pub returns : goal.returns
unfolding part
returns c =
    let e = c.args.e.now in
    ap (place_of (record { octets = c.array_in.result; len = get_or e 256 0 })) c.records_in-kind.ensures
    ∙ ap (λ (o : List ℕ). place_of (record { octets = o; len = get_or e 256 0 }) (records_of (entry_in e))) c.array_in.ensures
