use Rattle.std.proofs.Common.{arith, List, ℕ, ◌+◌, ◌<◌, sym, ◌∙◌, ap, subst}
use Rattle.dname.specs.Name.{name_of}
use Rattle.zone.specs.Survey.{fingerprint_words}
use Rattle.lentzone.specs.Decode.{entry_in}
use Rattle.zonesame.specs.Inner.{Fingerprints}
use Rattle.zonesame.proofs.PlacesLaws.{row_is, row_free}
use Rattle.zonesame.proofs.SearchLaws.{prints_free, prints_used}
use Rattle.zonesame.proofs.directory.fingerprints_in.Goals as goal
use Rattle.zonesame.proofs.directory.fingerprints_in.Goals.{then-place-ne0, else-place-ne0}

pub loop-i-preserved : goal.loop-i-preserved
loop-i-preserved c =
    let l = c.loop-i in
    let z = c.args.z.now in
    let p = c.places_of-place-items in
    let h : l.i < 64 = omega (arith, p.ensures.all) in
    elim c.if-place-ne0.branch [
      | then-place-ne0 w ↦ subst (λ (f : List ℕ). Fingerprints z f (l.i + 1)) (sym w.fingerprints-is)
          (prints_used z l.fingerprints l.i l.invariant h _
          (w.fingerprint.ensures ∙ ap fingerprint_words (w.name_at.ensures ∙ ap (λ (r : List ℕ). name_of (entry_in r).name) (row_is z p.result.now c.requires p.ensures.are l.i h))))
      | else-place-ne0 w ↦ subst (λ (f : List ℕ). Fingerprints z f (l.i + 1)) (sym w.fingerprints-is)
          (prints_free z l.fingerprints l.i l.invariant (row_free z p.result.now c.requires p.ensures.are l.i h w.if-place-ne0.false))
    ]
