use Rattle.std.proofs.lemmas.Result.{err_from_is_err_and}
use Rattle.versions.specs.declared.refusal.Refusal.TheVariants.{BadName, BadVersion}
use Rattle.wire.proofs.JudgeLemmas.{given_by, refuses_by}
use Rattle.wire.proofs.request.judging.marking.Goals as goal

pub returns-in_err-read : goal.returns-in_err-read
returns-in_err-read c =
    let p = err_from_is_err_and c.from_residual.result c.from_residual.ensures.1 in
    rw (p.1, p.2) (refuses_by _ _ BadName _ _ c.in_err-read.ensures.gives (λ bad. rw bad))

pub returns-in_err-read-2 : goal.returns-in_err-read-2
returns-in_err-read-2 c =
    let p = err_from_is_err_and c.from_residual-in_err-read-2.result c.from_residual-in_err-read-2.ensures.1 in
    let name = given_by _ _ _ BadName c.in_ok-read.ensures.gives in
    rw (p.1, p.2) (refuses_by _ _ BadVersion _ _ c.in_err-read-2.ensures.gives (λ bad. rw (name.0, bad)))
