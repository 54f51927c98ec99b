use Rattle.std.proofs.Common.{sym, ◌∙◌}
use Rattle.rdnss.proofs.CallLaws.{first_31, first_15, first_router, first_16, first_none}
use Rattle.rdnss.proofs.check.Goals as goal

pub returns-then-not-is_sound : goal.returns-then-not-is_sound
returns-then-not-is_sound c = first_31 _ _ _ _ (sym c.is_sound.ensures ∙ c.if-not-is_sound.true)

pub returns-then-not-is_timely : goal.returns-then-not-is_timely
returns-then-not-is_timely c = first_15 _ _ _ _ (sym c.is_sound.ensures ∙ c.if-not-is_sound.false) (sym c.is_timely.ensures ∙ c.if-not-is_timely.true)

pub returns-then-not-is_router_lifetime : goal.returns-then-not-is_router_lifetime
returns-then-not-is_router_lifetime c =
    first_router _ _ _ _ (sym c.is_sound.ensures ∙ c.if-not-is_sound.false) (sym c.is_timely.ensures ∙ c.if-not-is_timely.false)
    (sym c.is_router_lifetime.ensures ∙ c.if-not-is_router_lifetime.true)

pub returns-then-not-is_area : goal.returns-then-not-is_area
returns-then-not-is_area c =
    first_16 _ _ _ _ (sym c.is_sound.ensures ∙ c.if-not-is_sound.false) (sym c.is_timely.ensures ∙ c.if-not-is_timely.false)
    (sym c.is_router_lifetime.ensures ∙ c.if-not-is_router_lifetime.false) (sym c.is_area.ensures ∙ c.if-not-is_area.true)

pub returns : goal.returns
returns c =
    first_none _ _ _ _ (sym c.is_sound.ensures ∙ c.if-not-is_sound.false) (sym c.is_timely.ensures ∙ c.if-not-is_timely.false)
    (sym c.is_router_lifetime.ensures ∙ c.if-not-is_router_lifetime.false) (sym c.is_area.ensures ∙ c.if-not-is_area.false)
