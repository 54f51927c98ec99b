use Rattle.std.proofs.Common.{List, ℕ, sym, ◌∙◌, ap}
use Rattle.dname.specs.Name.{name_of}
use Rattle.lentzone.specs.Decode.{entry_in}
use Rattle.lentzone.specs.Inner.{place_in, row_at}
use Rattle.lentzone.proofs.FormLaws.{zone_octets}
use Rattle.zonesame.proofs.SearchLaws.{place_below}
use Rattle.zonesame.proofs.StandLaws.{stands_nowhere, stands_there}
use Rattle.zonesame.proofs.stand.stands.Goals as goal

pub returns-in_default : goal.returns-in_default
returns-in_default c =
    let m = ap (place_in c.args.right.now.zone.now) (c.name_at.ensures ∙ ap (λ (l : List ℕ). name_of (entry_in l).name) c.place_of.ensures) in
    stands_nowhere c.args.right.now.zone.now (entry_in (row_at c.args.left.now c.args.place)) (sym (c.in_default.ensures ∙ m))

pub is_same_at-requires : goal.is_same_at-requires
is_same_at-requires c = (c.requires.0, zone_octets _ c.args.right.now.has_form, c.requires.1, place_below _ _ c.args.right.now.has_form _ c.in-Some.ensures)

pub returns : goal.returns
returns c =
    let e = row_at c.args.left.now c.args.place in
    let z = c.args.right.now.zone.now in
    let q = c.in-Some.ensures ∙ ap (place_in z) (c.name_at.ensures ∙ ap (λ (l : List ℕ). name_of (entry_in l).name) c.place_of.ensures) in
    stands_there z (entry_in e) _ (sym q) _ c.is_same_at.ensures
