use Rattle.std.proofs.Common.{sym, ◌∙◌}
use Rattle.lentzone.specs.Decode.{part}
use Rattle.lentzone.proofs.decode.are_sets_sound.Goals as goal

pub returns-then-is_sound4_in : goal.returns-then-is_sound4_in
unfolding part
returns-then-is_sound4_in c = simp (sym c.is_sound4_in.ensures ∙ c.if-is_sound4_in.true) c.is_sound6_in.ensures

pub returns-else-is_sound4_in : goal.returns-else-is_sound4_in
unfolding part
returns-else-is_sound4_in c = c.if-is_sound4_in.false ∙ simp (sym c.is_sound4_in.ensures ∙ c.if-is_sound4_in.false)
