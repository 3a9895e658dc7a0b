use Rattle.std.proofs.lemmas.Result.{on_ok_weaker}
use Rattle.checker.proofs.Conclusions.{shown-step}
use Rattle.checker.proofs.chain.Chain.resolve.Goals as goal

pub returns-in-Some-clause-shown : goal.returns-in-Some-clause-shown
returns-in-Some-clause-shown c packages wanted base shown =
    on_ok_weaker c.resolve.result (λ step. shown-step packages wanted c.args.self.now.table c.resolve.new.self c.in-Some.cause.now c.args.pivot shown (c.in-Some.ensures.shown packages wanted base) step) c.resolve.ensures
