-- What the packet has of the option is what was seen of it, and what is left.
use Rattle.std.proofs.Common.{◌≡◌, ◌+◌, ◌-◌, length, drop}
use Rattle.leasepacket.specs.Options.{options}
use Rattle.leasepacket.specs.Occurrence.{before, occurrence}
use Rattle.leasepacket.proofs.OptionLaws.{left}
use Rattle.leasepacket.proofs.options.find.Given as goal

abbrev pub invariant-loop-next : goal.invariant-loop-next
invariant-loop-next l =
    occurrence l.code l.s ≡ left l.code l.seen (l.at + before l.code 0 (drop l.at l.s)) (options 0 (drop l.at l.s))

abbrev pub decreases-loop-next : goal.decreases-loop-next
decreases-loop-next l = length l.s - l.at
