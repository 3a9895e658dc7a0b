use Rattle.search.proofs.Places.{last-within, said-up_to}
use Rattle.search.proofs.trail.said_on.Goals as goal

pub said_at-requires-clause-within : goal.said_at-requires-clause-within
said_at-requires-clause-within c = rw c.last_on.ensures (last-within c.args.trail.now.made.items c.args.pkg)

pub returns : goal.returns
returns c = said-up_to c.args.trail.now.made.items c.args.pkg c.last_on.result c.said_at.result.now c.last_on.ensures c.said_at.ensures
