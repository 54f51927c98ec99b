use Rattle.leasepacket.proofs.ReadingLaws.{hardware_none, hardware_long, hardware_read}
use Rattle.leasepacket.proofs.query.by_hardware.Goals as goal
use Rattle.leasepacket.proofs.query.by_hardware.Goals.{then-hlen-eq0-via-then-hlen-eq0, then-hlen-eq0-via-else-hlen-eq0+then-hlen-gt-LONGEST_HARDWARE}

pub returns-then-hlen-eq0 : goal.returns-then-hlen-eq0
returns-then-hlen-eq0 c =
    elim c.then-hlen-eq0.branch [
      | then-hlen-eq0-via-then-hlen-eq0 w ↦ hardware_none _ c.requires.0 c.requires.1 w.if-hlen-eq0.true
      | then-hlen-eq0-via-else-hlen-eq0+then-hlen-gt-LONGEST_HARDWARE w ↦ hardware_long _ c.requires.0 c.requires.1 w.if-hlen-eq0.false w.if-hlen-gt-LONGEST_HARDWARE.true
    ]

pub returns : goal.returns
returns c = hardware_read _ c.requires.0 c.requires.1 c.if-hlen-eq0.false c.if-hlen-gt-LONGEST_HARDWARE.false
