use Rattle.std.proofs.Common.{arith, ◌≡◌, ◌≤◌, ◌∙◌, ap, sym, min, take, length}
use lib.Seq.{length-take-le}
use Rattle.octets.proofs.WriteLaws.{written, more}
use Rattle.lease.proofs.ListLaws.{take_min}
use Rattle.leasereply.proofs.ReplyLaws.{some_encoded, asked_not, asked_none}
use Rattle.leasereply.proofs.options.put_held.Goals as goal
use Rattle.leasereply.proofs.options.put_held.Goals.{then-not-wanted-via-then-not-wanted, then-not-wanted-via-else-not-wanted+then-m-eq0}

pub returns-then-not-wanted : goal.returns-then-not-wanted
returns-then-not-wanted c =
    elim c.then-not-wanted.branch [
      | then-not-wanted-via-then-not-wanted w ↦ asked_not c.args.wanted c.args.code (take c.args.n c.args.v.now) w.if-not-wanted.true
      | then-not-wanted-via-else-not-wanted+then-m-eq0 w ↦ asked_none c.args.wanted c.args.code c.args.n c.args.v.now w.if-not-wanted.false (omega (arith, c.min-m.ensures))
    ]

pub returns : goal.returns
returns c =
    let m = c.min-m.result in
    let e : m ≡ min c.args.n 64 = c.min-m.ensures in
    let h : m ≤ length c.args.v.now = omega arith in
    rw (c.if-not-wanted.false, take_min c.args.v.now c.args.n m (e ∙ ap (min c.args.n) (sym c.told-v)))
    (some_encoded (length-take-le m c.args.v.now h) (omega arith) (more (written c.put_octets-a.ensures) c.put_octets.ensures))
