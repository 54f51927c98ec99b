use Rattle.std.proofs.Common.{◌≡◌, ◌/◌, ◌%◌, w32, arith}
use Rattle.std.specs.Int.{to_be_bytes}
use Rattle.octets.specs.Number.{big_endian}
use Rattle.octets.proofs.number.u32_octets.Goals as goal

pub returns : goal.returns
unfolding big_endian
returns c =
    let v = c.args.v in
    let a : v / 16777216 % 256 ≡ v / 256 / 256 / 256 % 256 = omega arith in
    let b : v / 65536 % 256 ≡ v / 256 / 256 % 256 = omega arith in
    let e : to_be_bytes w32 v ≡ big_endian 4 v = rw (a, b) in
    rw c.to_be_bytes.ensures e
