use Rattle.std.proofs.Common.{◌≡◌, Bool, true, false, cond, refl, sym, ◌∙◌}
use mir.Val.{bool_byte}
use Rattle.zonesame.proofs.SameLaws.{promise_refused, promise_told}
use Rattle.zonesame.proofs.jespurla_zone_same.Goals as goal

byte : (b : Bool) → bool_byte b ≡ cond b 1 0
byte true = refl
byte false = refl

pub returns-then-not-are_zones : goal.returns-then-not-are_zones
returns-then-not-are_zones c = promise_refused _ _ (sym c.are_zones.ensures ∙ c.if-not-are_zones.true)

pub returns : goal.returns
returns c =
    promise_told _ _ (sym c.are_zones.ensures ∙ c.if-not-are_zones.false) _ _ (c.from.ensures ∙ byte _) c.is_same.ensures
