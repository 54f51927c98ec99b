use Rattle.std.proofs.Common.{[], rules}
use Rattle.addresses.specs.Addresses.{octets4, counted4}
use Rattle.addresses.proofs.CountedLaws.{Four}
use Rattle.lentzone.specs.Decode.{addr4}
use Rattle.lentzone.proofs.EncodeLaws.{put_four}
use Rattle.lentzone.proofs.encode.put_set4.Goals as goal

pub returns : goal.returns
returns c =
    let four : Four (counted4 c.args.s) = search rules in
    put_four octets4 4 (counted4 c.args.s) (addr4 []) four c.put4-p.ensures c.put4-q.ensures c.put4-r.ensures c.put4-t.ensures c.put_octet.ensures
