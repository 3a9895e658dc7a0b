use Rattle.search.proofs.Places.{last-within, decided-up_to}
use Rattle.search.proofs.trail.decided_on.Goals as goal

pub decided_at-requires-clause-within : goal.decided_at-requires-clause-within
decided_at-requires-clause-within c = rw c.last_on.ensures (last-within c.args.trail.now.made.items c.args.pkg)

pub returns : goal.returns
returns c = decided-up_to c.args.trail.now.made.items c.args.pkg c.last_on.result c.decided_at.result c.last_on.ensures c.decided_at.ensures
