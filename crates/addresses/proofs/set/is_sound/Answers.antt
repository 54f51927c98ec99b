use Rattle.std.proofs.Common.{sym, ◌∙◌, ap, map, arith}
use Rattle.octets.specs.Count.{distinct}
use Rattle.addresses.proofs.SetLaws.{sound_many, sound_rest}
use Rattle.addresses.proofs.set.is_sound.Goals as goal

pub returns-then-count-gt4 : goal.returns-then-count-gt4
returns-then-count-gt4 g c = sym (sound_many _ _ (omega arith))

pub returns : goal.returns
returns g c = c.is_distinct.ensures ∙ ap (λ l. distinct (map g.S.Addr.Addr.octets_of l)) c.held.ensures.list ∙ sym (sound_rest _ _ (omega arith))
