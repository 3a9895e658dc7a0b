use Rattle.std.proofs.lemmas.Result.{IfOk-from_err}
use Rattle.walk.proofs.order.pass_lines.Goals as goal

pub returns-clause-listing : goal.returns-clause-listing
returns-clause-listing g c = c.in_ok-pass_dependencies.ensures.listing

pub returns-clause-grown : goal.returns-clause-grown
returns-clause-grown g c = c.in_ok-pass_dependencies.ensures.grown

pub returns-clause-next : goal.returns-clause-next
returns-clause-next g c = c.in_ok-pass_dependencies.ensures.next

-- where memory is refused

pub returns-in_err-pass_needs : goal.returns-in_err-pass_needs
returns-in_err-pass_needs g c =
    let failed = c.from_residual in
    record {
      listing = IfOk-from_err failed.result _ failed.ensures.0;
      grown = IfOk-from_err failed.result _ failed.ensures.0;
      passed = IfOk-from_err failed.result _ failed.ensures.0;
      next = IfOk-from_err failed.result _ failed.ensures.0;
    }

pub returns-in_err-pass_dependencies : goal.returns-in_err-pass_dependencies
returns-in_err-pass_dependencies g c =
    let failed = c.from_residual-in_err-pass_dependencies in
    record {
      listing = IfOk-from_err failed.result _ failed.ensures.0;
      grown = IfOk-from_err failed.result _ failed.ensures.0;
      passed = IfOk-from_err failed.result _ failed.ensures.0;
      next = IfOk-from_err failed.result _ failed.ensures.0;
    }
