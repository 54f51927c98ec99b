-- How the names of a zone are spelled after a request. Assumes nothing.
use mathlib.Core.Path.{◌≡◌, refl, sym, ◌∙◌, ap, fun_ext}
use mathlib.Core.Bool.{Bool, cond}
use mathlib.Core.Option.{Option, none, some}
use Rattle.octets.specs.Count.{Octets}
use Rattle.zone.specs.declared.Zone.{Zone}
use Rattle.update.specs.Rules as rules
use Rattle.update.specs.Rules.{there}
use Rattle.update.specs.Meaning.{host_of, zone_of}
use Rattle.update.specs.Spelling.{Spelling, spelling_of, kept, respelled}
use Rattle.request.specs.Inner.{Spells}
use Rattle.request.proofs.PlaceLaws.{spells_as, with_keys}

-- a name is spelled exactly where it stands
pub spelled_there : (z : Zone) (k : Octets) → there (spelling_of z k) ≡ there ((zone_of z).at k)
unfolding spelling_of zone_of
spelled_there z k = with_keys spells_as z.entries k ∙ sym (with_keys host_of z.entries k)

-- a zone that is spelled as it was
pub spells_same : (n : Octets) (z after : Zone) → spelling_of after ≡ spelling_of z → Spells n z after
spells_same n z after q k octets e = ap (kept n) (sym (sym (ap (λ (x : Spelling). x k) q) ∙ e))

-- a zone that spells so is spelled by the rule
pub spelled_by : (n : Octets) (z after : Zone) → Spells n z after → (left : rules.Zone) → zone_of after ≡ left → spelling_of after ≡ respelled n left (spelling_of z)
unfolding respelled
spelled_by n z after s left e = fun_ext (λ k. go k (spelling_of after k) refl) ∙ ap (λ (x : rules.Zone). respelled n x (spelling_of z)) e
  where
    go : (k : Octets) (o : Option Octets) → spelling_of after k ≡ o → spelling_of after k ≡ respelled n (zone_of after) (spelling_of z) k
    go k none q = q ∙ ap (λ (b : Bool). cond b (some (kept n (spelling_of z k))) none) (ap there (sym q) ∙ spelled_there after k)
    go k (some x) q = q ∙ ap some (s k x q) ∙ ap (λ (b : Bool). cond b (some (kept n (spelling_of z k))) none) (ap there (sym q) ∙ spelled_there after k)
