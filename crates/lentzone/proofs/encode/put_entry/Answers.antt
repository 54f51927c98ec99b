use Rattle.std.proofs.Common.{◌≡◌, length, rules}
use Rattle.octets.proofs.WriteLaws.{written, more, then}
use Rattle.lentzone.proofs.EncodeLaws.{wrote_as, entry_joined}
use Rattle.lentzone.proofs.encode.put_entry.Goals as goal

pub returns : goal.returns
returns c =
    let l : length c.args.n.octets ≡ 255 = search rules in
    let rest = c.put_records.ensures in
    record {
      sized = record { name = l; dhcid = rest.sized.dhcid; v4 = rest.sized.v4; v6 = rest.sized.v6 };
      wrote =
          wrote_as (entry_joined c.args.n c.args.r)
          (then (more (more (written c.put_octet-p.ensures) c.put_octets-q.ensures) c.put_octet-t.ensures) rest.wrote);
    }
