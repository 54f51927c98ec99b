use Rattle.std.proofs.Common.{◌≡◌, ◌∷◌, rules}
use Rattle.zone.proofs.FingerprintLaws.{repeat_found, repeat_not, repeat_end}
use Rattle.zone.proofs.fingerprint.few_repeat.Goals as goal

pub returns-then-is_among : goal.returns-then-is_among
returns-then-is_among c =
    let q : c.loop-x.rest.now ≡ c.in-Some.x.now ∷ c.in-Some.behind.now = search rules in
    repeat_found _ _ c.loop-x.invariant c.in-Some.x.now c.in-Some.behind.now q _ c.is_among.ensures c.if-is_among.true

pub loop-x-preserved : goal.loop-x-preserved
loop-x-preserved c =
    let q : c.loop-x.rest.now ≡ c.in-Some.x.now ∷ c.in-Some.behind.now = search rules in
    repeat_not _ _ c.loop-x.invariant c.in-Some.x.now c.in-Some.behind.now q _ c.is_among.ensures c.if-is_among.false

pub returns : goal.returns
returns c = repeat_end _ _ c.loop-x.invariant c.in_default.ensures.cases
