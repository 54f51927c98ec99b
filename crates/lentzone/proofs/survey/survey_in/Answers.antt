use Rattle.std.proofs.Common.{ℕ, List, map, refl}
use mathlib.Core.Path.{subst}
use Rattle.zone.specs.Survey.{Surveyed}
use Rattle.lentzone.specs.Decode.{entry_in, zone_in}
use Rattle.lentzone.proofs.survey.survey_in.Goals as goal

pub returns-in-Some : goal.returns-in-Some
unfolding zone_in
returns-in-Some c =
    let e = c.in-Some.ensures in
    record {
      surveyed = λ l. subst (λ (rs : List (List ℕ)). Surveyed (record { entries = map entry_in rs }) c.args.n.now c.survey_of.result) e.2 c.survey_of.ensures;
      otherwise = λ n. absurd (n e.0);
    }

pub returns-in-None : goal.returns-in-None
returns-in-None c = record { surveyed = λ l. absurd (c.in-None.ensures l); otherwise = λ n. refl }
