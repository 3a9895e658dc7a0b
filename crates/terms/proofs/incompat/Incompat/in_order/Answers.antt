use Rattle.std.proofs.Common.{refl}
use Rattle.std.proofs.lemmas.Result.{IfOk-from_err}
use Rattle.terms.proofs.TermLists.{kept-alone, pair-lawful}
use Rattle.terms.proofs.incompat.Incompat.in_order.Goals as goal

pub invariant_of-result : goal.invariant_of-result
invariant_of-result c =
    let one = kept-alone c.args.low c.args.first (c.if-can_be_false.ensures.exactly.0 refl) in
    let two = kept-alone c.args.high c.args.second (c.if-can_be_false-2.ensures.exactly.0 refl) in
    rw (one, two) at (pair-lawful c.args.low c.args.high c.args.first c.args.second c.requires c.if-can_be_false.ensures.ascending c.if-can_be_false-2.ensures.ascending)

pub invariant_of-result-2 : goal.invariant_of-result-2
invariant_of-result-2 c =
    rw (c.in_ok-push_unless_always-2.ensures.items, c.in_ok-push_unless_always.ensures.items, c.in_ok-terms.ensures.items)
    (pair-lawful c.args.low c.args.high c.args.first c.args.second c.requires c.in_ok-push_unless_always.ensures.ascending c.in_ok-push_unless_always-2.ensures.ascending)

pub returns-in_err-terms : goal.returns-in_err-terms
returns-in_err-terms c = IfOk-from_err c.from_residual.result _ c.from_residual.ensures.0

pub returns-in_err-push_unless_always : goal.returns-in_err-push_unless_always
returns-in_err-push_unless_always c = IfOk-from_err c.from_residual-in_err-push_unless_always.result _ c.from_residual-in_err-push_unless_always.ensures.0

pub returns-in_err-push_unless_always-2 : goal.returns-in_err-push_unless_always-2
returns-in_err-push_unless_always-2 c = IfOk-from_err c.from_residual-in_err-push_unless_always-2.result _ c.from_residual-in_err-push_unless_always-2.ensures.0
