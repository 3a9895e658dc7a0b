use Rattle.search.specs.Assignments.{decided}
use Rattle.search.proofs.InOrder.{dependency_ended, finished_newest, need_ended, none_forbidden}
use Rattle.search.proofs.Naming.{reached-numbered}
use Rattle.search.proofs.turns.finish.Goals as goal

pub returns-in-Selection-clause-turns : goal.returns-in-Selection-clause-turns
returns-in-Selection-clause-turns c =
    let reached = rw c.in-Selection.is at c.in_ok-list.ensures in (
      c.requires.search.lines,
      record {
        once = reached.once;
        newest = finished_newest c.args.task.now c.args.search.now c.requires.search c.assignments-made.ensures.lawful c.kept_lines_hold.ensures c.a_list_in_order_is_its_selection.ensures
            _ reached.follows reached.meets;
      },
    )

pub meet_need-requires-clause-turn : goal.meet_need-requires-clause-turn
meet_need-requires-clause-turn c =
    need_ended c.args.task.now c.args.search.now c.requires.search c.assignments-made.ensures.lawful c.what_is_asked_is_listed.ensures c.requires.ended c.in-Unmet-Request-default.index

pub meet_dependency-requires-clause-turn : goal.meet_dependency-requires-clause-turn
meet_dependency-requires-clause-turn c =
    let reached = rw c.in-Unmet-Version-default.is at c.in_ok-list.ensures in
    let task = c.args.task.now in
    let chosen = (rw c.in-Unmet-Version-default.field-0-is at reached.asks).0 in
    dependency_ended task c.args.search.now c.requires.search c.assignments-made.ensures.lawful c.what_is_asked_is_listed.ensures c.requires.ended c.in-Unmet-Version-default.pkg c.in-Unmet-Version-default.ordinal
    (reached-numbered task.registry.now.packages task.request.now.needs (decided c.args.search.now.partial) c.in-Unmet-Version-default.pkg chosen.reached) chosen.chosen c.in-Unmet-Version-default.index

-- decisions are for allowed versions
pub unreachable-requires : goal.unreachable-requires
unreachable-requires c = none_forbidden c.args.task.now c.args.search.now c.requires.search c.assignments-made.ensures.lawful (rw c.in-NotAllowed.is at c.in_ok-list.ensures)
