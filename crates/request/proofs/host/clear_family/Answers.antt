use Rattle.std.proofs.Common.{sym, ap}
use Rattle.addresses.specs.Addresses.{Family, nothing}
use Rattle.update.specs.Rules.{with}
use Rattle.update.specs.Meaning.{host_of}
use Rattle.addresses.proofs.SetLaws.{of_empty4, of_empty6}
use Rattle.zone.specs.Survey.{place_of}
use Rattle.request.proofs.HostLaws.{kept4, kept6, kept_to, set_nothing, sound_nothing, family_four, family_six}
use Rattle.request.proofs.host.clear_family.Goals as goal

pub returns-then-family-eq4 : goal.returns-then-family-eq4
returns-then-family-eq4 c =
    let s = c.args in
    let e = c.default.ensures in
    let w = of_empty4 e in
    record {
      makes = λ n o. kept_to (kept4 (place_of n s.e) o c.default.result nothing (sound_nothing _ _ w.1 w.0) (set_nothing _ w.0))
          (ap (λ (f : Family). with f nothing (host_of (place_of n s.e))) (sym (family_four s.family c.if-family-eq4.true)));
    }

pub returns-else-family-eq4 : goal.returns-else-family-eq4
returns-else-family-eq4 c =
    let s = c.args in
    let e = c.default-else-family-eq4.ensures in
    let w = of_empty6 e in
    record {
      makes = λ n o. kept_to (kept6 (place_of n s.e) o c.default-else-family-eq4.result nothing (sound_nothing _ _ w.1 w.0) (set_nothing _ w.0))
          (ap (λ (f : Family). with f nothing (host_of (place_of n s.e))) (sym (family_six s.family c.if-family-eq4.false)));
    }
