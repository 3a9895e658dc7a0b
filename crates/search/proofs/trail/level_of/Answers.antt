use Rattle.search.proofs.Saying.{level_read}
use Rattle.search.proofs.trail.level_of.Goals as goal

pub returns-in-len1-up : goal.returns-in-len1-up
returns-in-len1-up c = level_read c.args.made.now c.last-item.result c.requires c.in-len1-up.len_at_least c.last-item.is
