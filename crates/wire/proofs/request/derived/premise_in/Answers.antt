use Rattle.std.proofs.Common.{refl}
use Rattle.std.proofs.lemmas.Result.{err_from_is_err_and}
use Rattle.versions.specs.declared.refusal.Refusal.TheVariants.{BadRequirement}
use Rattle.wire.proofs.JudgeLemmas.{given_by, refuses_by}
use Rattle.wire.proofs.request.derived.premise_in.Goals as goal

pub returns-in_err-need : goal.returns-in_err-need
returns-in_err-need c =
    let p = err_from_is_err_and c.from_residual.result c.from_residual.ensures.1 in
    rw (p.1, p.2) (refuses_by _ _ BadRequirement _ _ c.in_err-need.ensures.gives (λ bad. rw bad))

pub returns : goal.returns
returns c =
    let need = given_by _ _ _ BadRequirement c.in_ok-need.ensures.gives in
    rw (need.0, need.1, c.in_ok-package.ensures.same, c.in_ok-versions.ensures, c.in_ok-target.ensures.same, c.in_ok-within.ensures) refl
