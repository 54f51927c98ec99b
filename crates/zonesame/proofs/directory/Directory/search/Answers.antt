use Rattle.std.proofs.Common.{arith, ◌-◌, ◌<◌, sym, ◌∙◌, ap}
use Rattle.zone.specs.Survey.{named}
use Rattle.zone.proofs.SurveyLaws.{blank}
use Rattle.lentzone.proofs.FormLaws.{zone_octets}
use Rattle.lentzone.proofs.NamedLaws.{left_start, left_hit, left_miss, left_end}
use Rattle.lentzone.proofs.PlaceLaws.{place_at}
use Rattle.zonesame.proofs.SearchLaws.{print_miss}
use Rattle.zonesame.proofs.directory.Directory.search.Goals as goal
use Rattle.zonesame.proofs.directory.Directory.search.Goals.{else-self-place-via-then-self-place+else-is_at, else-self-place-via-else-self-place}

pub loop-place-init : goal.loop-place-init
loop-place-init c = left_start _ _ (zone_octets _ c.args.self.now.has_form)

pub returns-then-is_at : goal.returns-then-is_at
returns-then-is_at c =
    let l = c.loop-place in
    let z = c.args.self.now.zone.now in
    let k : l.place - 1 < 64 = omega arith in
    let e = ap (named c.args.n.now) (sym (place_at z (l.place - 1) (zone_octets z c.args.self.now.has_form) k blank)) ∙ sym c.is_at.ensures in
    sym (left_hit z c.args.n.now l.place (omega arith) l.invariant (e ∙ c.if-is_at.true))

pub loop-place-preserved : goal.loop-place-preserved
loop-place-preserved c =
    let l = c.loop-place in
    let z = c.args.self.now.zone.now in
    let k : l.place - 1 < 64 = omega arith in
    let e = ap (named c.args.n.now) (sym (place_at z (l.place - 1) (zone_octets z c.args.self.now.has_form) k blank)) in
    left_miss z c.args.n.now l.place (omega arith) l.invariant
    (e
    ∙ elim c.else-self-place.branch [
      | else-self-place-via-then-self-place+else-is_at w ↦ sym w.is_at.ensures ∙ w.if-is_at.false
      | else-self-place-via-else-self-place w ↦ print_miss z c.args.self.now.fingerprints c.args.n.now c.args.self.now.has_names (l.place - 1) k _ c.fingerprint-own.ensures w.if-self-place.false
    ])

pub returns : goal.returns
returns c = sym (left_end _ _ c.loop-place.place (omega arith) c.loop-place.invariant)
