use Rattle.text.specs.Text.{ascii}
use Rattle.serverlines.proofs.LineLaws.{list_put}
use Rattle.serverlines.proofs.put_list.Goals as goal

pub returns : goal.returns
unfolding ascii
returns c = list_put c.args.entries.now c.requires c.put_count-first.ensures c.put_servers.ensures
