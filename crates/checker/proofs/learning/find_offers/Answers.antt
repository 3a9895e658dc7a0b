use Rattle.std.proofs.lemmas.Result.{IfOk-weaker}
use Rattle.checker.proofs.learning.find_offers.Goals as goal

pub offers-requires-clause-lawful : goal.offers-requires-clause-lawful
offers-requires-clause-lawful c = record { packages = c.args.task.now.registry.now.packages; wanted = c.args.task.now.request.now; lawful = c.requires.lawful }

pub returns : goal.returns
returns c =
    IfOk-weaker c.offers.result _ _
    (λ offered stand. stand c.args.task.now.registry.now.packages c.args.task.now.request.now c.requires.lawful) c.offers.ensures.stand
