use Rattle.search.proofs.InOrder.{next_end, next_turn}
use Rattle.search.proofs.turns.go_on.Goals as goal

pub decide_next-requires-clause-turn : goal.decide_next-requires-clause-turn
decide_next-requires-clause-turn c =
    next_turn c.args.task.now c.args.search.now c.requires.search c.assignments-made.ensures.lawful c.there_is_one_list_in_order.ensures c.next_in_order.new.order.found.entries c.in_ok-next.ensures.listing
    c.in-Some.next (rw c.in-Some.is at c.in_ok-next.ensures.ends)

pub decide_next-requires-clause-undecided : goal.decide_next-requires-clause-undecided
decide_next-requires-clause-undecided c = (rw c.in-Some.is at c.in_ok-next.ensures.ends).none

pub decide_next-requires-clause-asked : goal.decide_next-requires-clause-asked
decide_next-requires-clause-asked c = (rw c.in-Some.is at c.in_ok-next.ensures.ends).asked

pub finish-requires-clause-ended : goal.finish-requires-clause-ended
finish-requires-clause-ended c =
    next_end c.args.task.now c.args.search.now c.requires.search c.assignments-made.ensures.lawful c.there_is_one_list_in_order.ensures c.next_in_order.new.order.found.entries c.in_ok-next.ensures.listing
    (rw c.in-None.is at c.in_ok-next.ensures.ends)
