use Rattle.std.proofs.Common.{rules, ◌≡◌, refl, map, not, ℕ, sym}
use Rattle.std.specs.Prelude.{Option, Some, None}
use Rattle.zone.specs.Meaning.{used}
use Rattle.zone.specs.Survey.{place_from}
use Rattle.lentzone.specs.Decode.{entry_in}
use Rattle.lentzone.proofs.FreeLaws.{free_last, free_none}
use Rattle.lentzone.proofs.survey.free_in.Goals as goal

pub returns : goal.returns
returns c = go c.rposition.result refl
  where
    go : (r : Option ℕ) → c.rposition.result ≡ r → r ≡ place_from (λ e. not (used e)) 0 None (map entry_in c.args.places.now)
    go None q = sym (free_none c.args.places.now (λ j h. search rules))
    go (Some i) q = sym (free_last c.args.places.now i (search rules) (search rules) (λ j k h. search rules))
