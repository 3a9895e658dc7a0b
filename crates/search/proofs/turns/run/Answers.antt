use Rattle.search.proofs.turns.run.Goals as goal

pub search-init : goal.search-init
search-init c = record {
  search = c.requires;
  order = c.new-order.ensures c.args.task.now.registry.now.packages c.args.task.now.request.now.needs;
}

pub returns-in-Selected-clause-ends : goal.returns-in-Selected-clause-ends
returns-in-Selected-clause-ends c = rw c.in-Selected.is at c.in_ok-list.ensures.turns
