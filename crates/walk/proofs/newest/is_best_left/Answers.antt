use Rattle.walk.proofs.Better.{best_other, best_unlocked}
use Rattle.walk.proofs.newest.is_best_left.Goals as goal

pub returns-in-None : goal.returns-in-None
returns-in-None g c = λ yes.
    let prefix = c.args.prefix.now in
    best_unlocked prefix.registry.now.packages prefix.request.now c.args.pkg c.args.ordinal prefix.choosing.now.found.entries c.in-None.ensures.none (c.is_highest_left.ensures yes)

pub returns-then-is_out : goal.returns-then-is_out
returns-then-is_out g c = λ yes.
    let prefix = c.args.prefix.now in
    best_other prefix.registry.now.packages prefix.request.now c.args.pkg c.args.ordinal prefix.choosing.now.found.entries c.in-Some.locked c.in-Some.ensures.some
    (c.is_out.ensures c.if-is_out.true) (c.is_highest_left-then-is_out.ensures yes)
