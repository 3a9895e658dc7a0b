use Rattle.std.proofs.lemmas.Result.{err_from_is_err_and}
use Rattle.solver.proofs.Stopping.{may_lack}
use Rattle.solver.proofs.telling.outcome_of.Goals as goal

pub tell-requires-clause-once : goal.tell-requires-clause-once
tell-requires-clause-once c = (rw c.in-Selected.is at c.requires).0.once

pub tell-requires-clause-selection : goal.tell-requires-clause-selection
tell-requires-clause-selection c = (rw c.in-Selected.is at c.requires).0.newest.meets.selection

pub returns-in_ok-pairs-in-Selected : goal.returns-in_ok-pairs-in-Selected
returns-in_ok-pairs-in-Selected c =
    let found = rw c.in-Selected.is at c.requires in
    (record { selection = _; newest = found.0.newest; tells = c.in_ok-pairs-in-Selected.ensures }, found.1)

pub returns-in_ok-derivation-in-Refused : goal.returns-in_ok-derivation-in-Refused
returns-in_ok-derivation-in-Refused c =
    let found = rw c.in-Refused.is at c.requires in
    (c.if-not-task.false, c.in_ok-derivation-in-Refused.ensures.derived c.args.task.now.registry.now.packages c.args.task.now.request.now found.0.lawful, found.1)

-- where memory is refused

pub returns-in_err-pairs-in-Selected : goal.returns-in_err-pairs-in-Selected
returns-in_err-pairs-in-Selected c =
    let err = err_from_is_err_and c.from_residual.result c.from_residual.ensures.1 in
    rw (err.1, err.2) (may_lack c.args.task.now.registry.now.packages c.args.task.now.request.now c.args.task.now.options.budget)

pub returns-in_err-derivation-in-Refused : goal.returns-in_err-derivation-in-Refused
returns-in_err-derivation-in-Refused c =
    let err = err_from_is_err_and c.from_residual-in_err-derivation-in-Refused.result c.from_residual-in_err-derivation-in-Refused.ensures.1 in
    rw (err.1, err.2) (may_lack c.args.task.now.registry.now.packages c.args.task.now.request.now c.args.task.now.options.budget)
