use Rattle.std.proofs.lemmas.Result.{IfOk-from_err}
use Rattle.registry.proofs.PlaceLemmas.{grown-none}
use Rattle.registry.proofs.ready.kept_need.Goals as goal

pub returns-in_err-clone-clause-grown : goal.returns-in_err-clone-clause-grown
returns-in_err-clone-clause-grown c = grown-none c.args.list.now

pub returns-in-Some-clause-grown : goal.returns-in-Some-clause-grown
returns-in-Some-clause-grown c = grown-none c.args.list.now

pub returns-in_err-place-clause-grown : goal.returns-in_err-place-clause-grown
returns-in_err-place-clause-grown c = c.name_need.ensures.grown

pub returns-in_err-clone-2-clause-grown : goal.returns-in_err-clone-2-clause-grown
returns-in_err-clone-2-clause-grown c = c.name_need.ensures.grown

pub returns-clause-grown : goal.returns-clause-grown
returns-clause-grown c = c.name_need.ensures.grown

pub returns-in_err-clone-clause-same : goal.returns-in_err-clone-clause-same
returns-in_err-clone-clause-same c = IfOk-from_err c.from_residual.result _ c.from_residual.ensures.0

pub returns-in_err-place-clause-same : goal.returns-in_err-place-clause-same
returns-in_err-place-clause-same c = IfOk-from_err c.from_residual-in_err-place.result _ c.from_residual-in_err-place.ensures.0

pub returns-in_err-clone-2-clause-same : goal.returns-in_err-clone-2-clause-same
returns-in_err-clone-2-clause-same c = IfOk-from_err c.from_residual-in_err-clone-2.result _ c.from_residual-in_err-clone-2.ensures.0
