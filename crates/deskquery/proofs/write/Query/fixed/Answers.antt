use Rattle.std.proofs.Common.{arith}
use Rattle.deskquery.proofs.QueryLaws.{hardware_most}
use Rattle.deskquery.proofs.write.Query.fixed.Goals as goal
use Rattle.deskquery.proofs.write.Query.fixed.Goals.{in-Address, in-Hardware, in-ClientId}

pub invariant_of-result : goal.invariant_of-result
invariant_of-result c =
    elim c.match-self.branch [
      | in-Address w ↦ rw w.ciaddr-is (record { short = omega arith })
      | in-Hardware w ↦
          let k = w.in-Hardware in
          let h = rw k.is at c.args.self.now.taken in
          rw w.ciaddr-is (record { short = hardware_most k.htype k.octets.now h })
      | in-ClientId w ↦ rw w.ciaddr-is (record { short = omega arith })
    ]
