use Rattle.std.proofs.Common.{◌∙◌, ap, sym, Ok}
use Rattle.std.proofs.lemmas.Result.{err_from_is_err_and}
use Rattle.versions.specs.declared.refusal.Refusal.TheVariants.{BadName, BadVersion}
use Rattle.wire.proofs.JudgeLemmas.{given_by, gives_lock, refuses_by, refuses_lock}
use Rattle.wire.proofs.request.lock.judge_lock.Goals as goal

pub returns-in_err-names : goal.returns-in_err-names
returns-in_err-names c =
    let p = err_from_is_err_and c.from_residual.result c.from_residual.ensures.1 in
    rw (p.1, p.2) (refuses_by _ _ BadName _ _ c.in_err-names.ensures (λ bad. rw bad))

pub returns-in_err-lines : goal.returns-in_err-lines
returns-in_err-lines c =
    let p = err_from_is_err_and c.from_residual-in_err-lines.result c.from_residual-in_err-lines.ensures.1 in
    let named = given_by _ _ _ BadName c.in_ok-names.ensures in
    rw (p.1, p.2) (refuses_by _ _ BadVersion _ _ c.in_err-lines.ensures (λ bad. rw (named.0, bad)))

pub returns-in_err-request : goal.returns-in_err-request
returns-in_err-request c =
    let p = err_from_is_err_and c.from_residual-in_err-request.result c.from_residual-in_err-request.ensures.1 in
    let named = given_by _ _ _ BadName c.in_ok-names.ensures in
    let lines = given_by _ _ _ BadVersion c.in_ok-lines.ensures in
    rw (p.1, p.2) (refuses_lock c.args.lock.now _ _ named.0 lines.0 c.new.ensures.items lines.1 _ c.in_err-request.ensures)

pub returns : goal.returns
returns c =
    let named = given_by _ _ _ BadName c.in_ok-names.ensures in
    let lines = given_by _ _ _ BadVersion c.in_ok-lines.ensures in
    gives_lock c.args.lock.now _ _ named.0 lines.0 c.new.ensures.items lines.1 _ c.in_ok-request.ensures ∙ ap Ok (sym c.into_lock.ensures)
