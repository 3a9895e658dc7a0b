use Rattle.std.proofs.Common.{refl}
use Rattle.std.proofs.lemmas.Result.{err_from_is_err_and}
use Rattle.versions.specs.declared.refusal.Refusal.TheVariants.{BadName, BadRequirement, BadVersion}
use Rattle.wire.proofs.JudgeLemmas.{given_by, refuses_by}
use Rattle.wire.proofs.request.judging.publication.Goals as goal

pub returns-in_err-name : goal.returns-in_err-name
returns-in_err-name c =
    let p = err_from_is_err_and c.from_residual.result c.from_residual.ensures.1 in
    rw (p.1, p.2) (refuses_by _ _ BadName _ _ c.in_err-name.ensures.gives (λ bad. rw bad))

pub returns-in_err-names : goal.returns-in_err-names
returns-in_err-names c =
    let p = err_from_is_err_and c.from_residual-in_err-names.result c.from_residual-in_err-names.ensures.1 in
    let name = given_by _ _ _ BadName c.in_ok-name.ensures.gives in
    rw (p.1, p.2) (refuses_by _ _ BadName _ _ c.in_err-names.ensures (λ bad. rw (name.0, bad)))

pub returns-in_err-version : goal.returns-in_err-version
returns-in_err-version c =
    let p = err_from_is_err_and c.from_residual-in_err-version.result c.from_residual-in_err-version.ensures.1 in
    let name = given_by _ _ _ BadName c.in_ok-name.ensures.gives in
    let names = given_by _ _ _ BadName c.in_ok-names.ensures in
    rw (p.1, p.2) (refuses_by _ _ BadVersion _ _ c.in_err-version.ensures.gives (λ bad. rw (name.0, names.0, bad)))

pub returns-in_err-needs_in : goal.returns-in_err-needs_in
returns-in_err-needs_in c =
    let p = err_from_is_err_and c.from_residual-in_err-needs_in.result c.from_residual-in_err-needs_in.ensures.1 in
    let name = given_by _ _ _ BadName c.in_ok-name.ensures.gives in
    let names = given_by _ _ _ BadName c.in_ok-names.ensures in
    let version = given_by _ _ _ BadVersion c.in_ok-version.ensures.gives in
    rw (p.1, p.2) (refuses_by _ _ BadRequirement _ _ c.in_err-needs_in.ensures (λ bad. rw (name.0, names.0, version.0, bad)))

pub returns : goal.returns
returns c =
    let name = given_by _ _ _ BadName c.in_ok-name.ensures.gives in
    let names = given_by _ _ _ BadName c.in_ok-names.ensures in
    let version = given_by _ _ _ BadVersion c.in_ok-version.ensures.gives in
    let needs = given_by _ _ _ BadRequirement c.in_ok-needs_in.ensures in
    rw (name.0, names.0, version.0, needs.0, name.1, version.1, c.in_ok-needs.ensures, needs.1) refl
