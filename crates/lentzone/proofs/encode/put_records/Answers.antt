use Rattle.std.proofs.Common.{◌≡◌, length, rules}
use Rattle.octets.proofs.WriteLaws.{written, then}
use Rattle.lentzone.proofs.EncodeLaws.{wrote_as, records_joined}
use Rattle.lentzone.proofs.encode.put_records.Goals as goal

pub returns : goal.returns
returns c =
    let r = c.args.r in
    let four = c.put_set4-q.ensures in
    let six = c.put_set6.ensures in
    let d : length r.dhcid.octets ≡ 35 = search rules in
    record {
      sized = record { dhcid = d; v4 = four.sized; v6 = six.sized };
      wrote = wrote_as (records_joined r) (then (then (written c.put_octets-p.ensures) four.wrote) six.wrote);
    }
