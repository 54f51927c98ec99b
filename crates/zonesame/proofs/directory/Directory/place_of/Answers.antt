use Rattle.std.proofs.Common.{List, ℕ, sym, ◌∙◌, ap}
use Rattle.lentzone.specs.Decode.{entry_in}
use Rattle.lentzone.proofs.FormLaws.{zone_octets}
use Rattle.lentzone.specs.Inner.{row_at}
use Rattle.zonesame.specs.Inner.{spelled_so}
use Rattle.zonesame.proofs.SearchLaws.{spelled_named, only_place}
use Rattle.zonesame.proofs.directory.Directory.place_of.Goals as goal

pub place_of-requires : goal.place_of-requires
place_of-requires c = (zone_octets _ c.args.self.now.has_form, c.requires)

pub returns-then-is_spelled : goal.returns-then-is_spelled
returns-then-is_spelled c =
    let z = c.args.self.now.zone.now in
    let n = c.args.n.now in
    let place = c.args.place in
    let e = ap (λ (l : List ℕ). spelled_so n (entry_in l)) (sym c.place_of.ensures) ∙ sym c.is_spelled.ensures ∙ c.if-is_spelled.true in
    sym (only_place z n c.args.self.now.has_form place c.requires (spelled_named n (entry_in (row_at z place)) e))
