use Rattle.std.proofs.Common.{ap, length}
use Rattle.facts.proofs.Pushed.{fact_extends, fact_place}
use Rattle.facts.proofs.facts.push_fact.Goals as goal

pub returns-clause-extends : goal.returns-clause-extends
returns-clause-extends c =
    fact_extends c.args.task.now c.args.known.now.items c.push.new.self.items c.args.cause c.args.conclusion c.requires c.in_ok-push.ensures.items

pub returns-clause-place : goal.returns-clause-place
returns-clause-place c =
    fact_place c.args.known.now.items c.push.new.self.items c.args.cause c.args.conclusion (length c.as_slice-at.result.now) c.in_ok-push.ensures.items (ap length c.as_slice-at.ensures.value)
