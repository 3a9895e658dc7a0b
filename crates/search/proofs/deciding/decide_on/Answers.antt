use Rattle.std.proofs.Common.{◌∙◌}
use Rattle.search.proofs.InOrder.{placed}
use Rattle.search.proofs.deciding.decide_on.Goals as goal

pub bar-requires-clause-left : goal.bar-requires-clause-left
bar-requires-clause-left c choice h = (rw c.in-Barred.is at c.in_ok-ordinal.ensures).0 choice ∙ h

pub decide_for-requires-clause-placed : goal.decide_for-requires-clause-placed
decide_for-requires-clause-placed c =
    let picked = rw c.in-Version.is at c.in_ok-ordinal.ensures in
    placed c.args.task.now c.args.search.now.partial c.args.pkg c.in-Version.ordinal c.requires.decide.numbered c.requires.turn picked.0 picked.2

pub decide_for-requires-clause-published : goal.decide_for-requires-clause-published
decide_for-requires-clause-published c =
    let picked = rw c.in-Version.is at c.in_ok-ordinal.ensures in
    c.allowed_is_published.ensures c.args.task.now.registry.now.packages c.args.task.now.request.now c.args.pkg c.in-Version.ordinal picked.0
