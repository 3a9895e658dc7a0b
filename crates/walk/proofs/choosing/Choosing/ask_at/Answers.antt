use Rattle.walk.proofs.Bests.{grown_asked, meets_asked}
use Rattle.walk.proofs.choosing.Choosing.ask_at.Goals as goal

pub returns-clause-meets : goal.returns-clause-meets
returns-clause-meets c = meets_asked c.args.registry.now.packages c.args.version.0 c.args.version.1 c.args.self.now c.ask.new.self c.in_ok-ask.ensures.same.0 c.in_ok-ask.ensures.same.1 c.in_ok-ask.ensures.same.2

pub returns-clause-asks : goal.returns-clause-asks
returns-clause-asks c = (c.in_ok-target.target, c.in_ok-target.ensures, c.in_ok-ask.ensures.asks)

pub returns-clause-grown : goal.returns-clause-grown
returns-clause-grown c = grown_asked c.in_ok-target.target c.args.is_wanted c.args.self.now c.ask.new.self c.in_ok-ask.ensures.asks c.in_ok-ask.ensures.same.1
