use Rattle.std.proofs.Common.{refl}
use Rattle.std.proofs.lemmas.Result.{err_from_is_err_and}
use Rattle.versions.specs.declared.refusal.Refusal.TheVariants.{BadRequirement}
use Rattle.wire.proofs.JudgeLemmas.{given_by, refuses_by}
use Rattle.wire.proofs.request.derived.line_in.Goals as goal

pub returns-in_err-causes_in : goal.returns-in_err-causes_in
returns-in_err-causes_in c =
    let p = err_from_is_err_and c.from_residual-in_err-causes_in.result c.from_residual-in_err-causes_in.ensures.1 in
    rw (p.1, p.2) (refuses_by _ _ BadRequirement _ _ c.in_err-causes_in.ensures (λ bad. rw bad))

pub returns : goal.returns
returns c =
    let causes = given_by _ _ _ BadRequirement c.in_ok-causes_in.ensures in
    rw (causes.0, causes.1, c.in_ok-conclusion.ensures.same, c.in_ok-pivot.ensures.same) refl
