use Rattle.search.specs.Assignments.{decisions}
use Rattle.std.proofs.Common.{◌+◌}
use Rattle.search.proofs.Decisions.{decided_goes}
use Rattle.search.proofs.Kept.{extends_search}
use Rattle.search.proofs.deciding.decide_for.Goals as goal

pub returns-in_ok-decide-in-Neither-clause-acts : goal.returns-in_ok-decide-in-Neither-clause-acts
returns-in_ok-decide-in-Neither-clause-acts c =
    let unchanged = rw c.in-Neither.is at c.in_ok-use_from.ensures.acts in
    decided_goes c.args.task.now.registry.now.packages c.args.task.now.request.now c.args.search.now.partial c.use_from.new.search.partial c.decide.new.self c.enter.new.known.items c.use_from.new.search.known.items
    c.args.pkg c.args.ordinal (decisions c.use_from.new.search.partial + 1) c.requires.placed unchanged.0 unchanged.1 (extends_search c.in_ok-enter.ensures c.requires.search)
    c.in_ok-decide-in-Neither.ensures.ok c.in_ok-decide-in-Neither.ensures.falls

pub use_from-requires : goal.use_from-requires
use_from-requires c = extends_search c.in_ok-enter.ensures c.requires.search

pub decide-requires-clause-undecided : goal.decide-requires-clause-undecided
decide-requires-clause-undecided c =
    let unchanged = rw c.in-Neither.is at c.in_ok-use_from.ensures.acts in
    rw unchanged.0 c.requires.undecided

pub decide-requires-clause-within : goal.decide-requires-clause-within
decide-requires-clause-within c =
    let unchanged = rw c.in-Neither.is at c.in_ok-use_from.ensures.acts in
    rw unchanged.0 c.requires.within

pub returns-in-Derived-clause-acts : goal.returns-in-Derived-clause-acts
returns-in-Derived-clause-acts c = rw c.in-Derived.is at c.in_ok-use_from.ensures.acts

pub returns-in-Backjumped-clause-acts : goal.returns-in-Backjumped-clause-acts
returns-in-Backjumped-clause-acts c = rw c.in-Backjumped.is at c.in_ok-use_from.ensures.acts

pub returns-in-Refused-clause-acts : goal.returns-in-Refused-clause-acts
returns-in-Refused-clause-acts c = rw c.in-Refused.is at c.in_ok-use_from.ensures.acts
