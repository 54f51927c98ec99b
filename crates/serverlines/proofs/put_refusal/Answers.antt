use Rattle.text.specs.Text.{ascii}
use Rattle.serverlines.proofs.LineLaws.{refusal_put}
use Rattle.serverlines.proofs.put_refusal.Goals as goal

pub returns : goal.returns
unfolding ascii
returns c =
    let p = rw c.from.ensures at c.put_count.ensures in
    refusal_put c.args.refusal p
