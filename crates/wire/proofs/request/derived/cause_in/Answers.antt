use Rattle.std.proofs.Common.{refl}
use Rattle.std.proofs.lemmas.Result.{err_from_is_err_and}
use Rattle.versions.specs.declared.refusal.Refusal.TheVariants.{BadRequirement}
use Rattle.wire.proofs.JudgeLemmas.{given_by, refuses_by}
use Rattle.wire.proofs.request.derived.cause_in.Goals as goal

pub returns-in_err-read-in-Premise : goal.returns-in_err-read-in-Premise
returns-in_err-read-in-Premise c =
    let p = err_from_is_err_and c.from_residual.result c.from_residual.ensures.1 in
    rw (p.1, p.2, c.in-Premise.is) (refuses_by _ _ BadRequirement _ _ c.in_err-read-in-Premise.ensures (λ bad. rw bad))

pub returns-in_ok-read-in-Premise : goal.returns-in_ok-read-in-Premise
returns-in_ok-read-in-Premise c =
    let read = given_by _ _ _ BadRequirement c.in_ok-read-in-Premise.ensures in
    rw (c.in-Premise.is, read.0, read.1) refl
