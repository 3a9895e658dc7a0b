use Rattle.std.proofs.Common.{◌∙◌, sym}
use Rattle.std.proofs.lemmas.Result.{IfOk-from_err}
use Rattle.terms.proofs.SameIncompats.{same_resolvent}
use Rattle.terms.proofs.resolving.resolve.Goals as goal

pub returns-clause-only : goal.returns-clause-only
returns-clause-only c other lawful ascending follows =
    let made = rw (c.terms.ensures.same, c.terms-2.ensures.same) at c.in_ok-resolved.ensures.follows in
    same_resolvent other c.in_ok-resolved.field-0.items c.args.first.now c.args.second.now c.args.pivot lawful c.in_ok-resolved.ensures.ordered ascending c.in_ok-resolved.ensures.ascending follows made
    ∙ sym c.of_terms.ensures

pub returns-in_err-resolved : goal.returns-in_err-resolved
returns-in_err-resolved c = let failed = c.from_residual in record { follows = IfOk-from_err failed.result _ failed.ensures.0; lawful = IfOk-from_err failed.result _ failed.ensures.0; ascending = IfOk-from_err failed.result _ failed.ensures.0; only = IfOk-from_err failed.result _ failed.ensures.0 }
