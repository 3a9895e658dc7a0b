use Rattle.search.specs.Assignments.{decided}
use Rattle.registry.specs.Registry.{needs_of}
use Rattle.search.proofs.InOrder.{asked_turn, asked_unmet}
use Rattle.search.proofs.turns.decide_next.Goals as goal

pub meet_need-requires-clause-unmet : goal.meet_need-requires-clause-unmet
meet_need-requires-clause-unmet c =
    let asked = c.requires.asked in
    asked_unmet c.args.task.now.registry.now.packages (decided c.args.search.now.partial) c.args.task.now.request.now.needs c.args.next.index c.args.next.pkg asked.line
    (rw c.in-Request.is at asked.at) asked.numbered c.requires.undecided

pub meet_need-requires-clause-turn : goal.meet_need-requires-clause-turn
meet_need-requires-clause-turn c =
    let asked = c.requires.asked in
    asked_turn c.args.task.now c.args.search.now.partial c.args.task.now.request.now.needs c.args.next.index c.args.next.pkg asked.line
    (rw c.in-Request.is at asked.at) asked.numbered c.requires.turn

pub meet_dependency-requires-clause-chosen : goal.meet_dependency-requires-clause-chosen
meet_dependency-requires-clause-chosen c = rw c.in-Version.is at c.requires.asked.asks

pub meet_dependency-requires-clause-unmet : goal.meet_dependency-requires-clause-unmet
meet_dependency-requires-clause-unmet c =
    let asked = c.requires.asked in
    let packages = c.args.task.now.registry.now.packages in
    asked_unmet packages (decided c.args.search.now.partial) (needs_of packages c.in-Version.pkg c.in-Version.ordinal) c.args.next.index c.args.next.pkg asked.line
    (rw c.in-Version.is at asked.at) asked.numbered c.requires.undecided

pub meet_dependency-requires-clause-turn : goal.meet_dependency-requires-clause-turn
meet_dependency-requires-clause-turn c =
    let asked = c.requires.asked in
    asked_turn c.args.task.now c.args.search.now.partial (needs_of c.args.task.now.registry.now.packages c.in-Version.pkg c.in-Version.ordinal) c.args.next.index c.args.next.pkg asked.line
    (rw c.in-Version.is at asked.at) asked.numbered c.requires.turn
