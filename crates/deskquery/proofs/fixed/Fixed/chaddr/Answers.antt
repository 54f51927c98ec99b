use Rattle.std.proofs.Common.{◌≡◌, ◌∙◌, ℕ, length, replicate, arith}
use Rattle.std.proofs.Math.ListN.{length-replicate}
use Rattle.octets.proofs.WriteLaws.{written, put_front}
use Rattle.deskquery.proofs.fixed.Fixed.chaddr.Goals as goal

pub returns : goal.returns
returns c =
    let n : length {A = ℕ} (replicate 16 0) ≡ 16 = length-replicate {A = ℕ} 16 0 in
    ((written c.put_octets-end.ensures).fit (omega (arith, n, c.args.self.now.short))).list ∙ put_front (replicate 16 0) c.args.self.now.octets.now
