use Rattle.std.proofs.lemmas.Result.{IfOk-weaker}
use Rattle.checker.specs.Shown.{IsShown}
use Rattle.checker.specs.Tables.{Concludes}
use Rattle.checker.proofs.Conclusions.{same-shown}
use Rattle.checker.proofs.chain.Chain.conclusion.Goals as goal

pub returns-clause-shown : goal.returns-clause-shown
returns-clause-shown c packages wanted shown =
    IfOk-weaker c.conclusion.result (Concludes c.args.self.now.table) (IsShown packages wanted) (λ terms h. same-shown packages wanted c.args.self.now.table terms shown h.same h.none) c.conclusion.ensures
