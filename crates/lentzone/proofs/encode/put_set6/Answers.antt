use Rattle.std.proofs.Common.{[], rules}
use Rattle.addresses.specs.Addresses.{octets6, counted6}
use Rattle.addresses.proofs.CountedLaws.{Four}
use Rattle.lentzone.specs.Decode.{addr6}
use Rattle.lentzone.proofs.EncodeLaws.{put_four}
use Rattle.lentzone.proofs.encode.put_set6.Goals as goal

pub returns : goal.returns
returns c =
    let four : Four (counted6 c.args.s) = search rules in
    put_four octets6 16 (counted6 c.args.s) (addr6 []) four c.put6-p.ensures c.put6-q.ensures c.put6-r.ensures c.put6-t.ensures c.put_octet.ensures
