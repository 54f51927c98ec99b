use Rattle.std.proofs.Common.{◌∙◌, lt-ltb}
use Rattle.addresses.specs.Addresses.{octets6, counted6}
use Rattle.lentzone.specs.Decode.{set6_in}
use Rattle.lentzone.proofs.DecodeLaws.{few_sound}
use Rattle.lentzone.proofs.decode.is_sound6_in.Goals as goal

pub returns-then-s-lt2 : goal.returns-then-s-lt2
returns-then-s-lt2 c = lt-ltb _ _ c.if-s-lt2.true ∙ few_sound octets6 (counted6 (set6_in c.args.s.now)) c.if-s-lt2.true
