use Rattle.search.proofs.Places.{decided-up_to, last-within, said-up_to}
use Rattle.search.proofs.StillOpen.{undecided-if, undecided-not}
use Rattle.search.proofs.undecided.is_undecided.Goals as goal

pub decided_at-requires-clause-within : goal.decided_at-requires-clause-within
decided_at-requires-clause-within c = rw c.last_on-last.ensures (last-within c.args.trail.now.made.items c.args.pkg)

pub said_at-requires-clause-within : goal.said_at-requires-clause-within
said_at-requires-clause-within c = rw c.last_on-last.ensures (last-within c.args.trail.now.made.items c.args.pkg)

pub returns-in-Some : goal.returns-in-Some
returns-in-Some c =
    let made = c.args.trail.now.made.items in
    undecided-not made c.args.pkg c.in-Some.field-0 c.decided_at.result (decided-up_to made c.args.pkg c.last_on-last.result c.decided_at.result c.last_on-last.ensures c.decided_at.ensures) c.in-Some.is

pub returns-in-None : goal.returns-in-None
returns-in-None c =
    let made = c.args.trail.now.made.items in
    undecided-if made c.args.pkg c.decided_at.result c.said_at.result.now c.is_positive.result
    (decided-up_to made c.args.pkg c.last_on-last.result c.decided_at.result c.last_on-last.ensures c.decided_at.ensures) c.in-None.is
    (said-up_to made c.args.pkg c.last_on-last.result c.said_at.result.now c.last_on-last.ensures c.said_at.ensures) c.is_positive.ensures
