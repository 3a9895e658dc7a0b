use Rattle.std.proofs.Common.{refl}
use Rattle.std.proofs.lemmas.Result.{err_from_is_err_and}
use Rattle.versions.specs.declared.refusal.Refusal.TheVariants.{BadRequirement}
use Rattle.wire.specs.DerivedShapes.{cause_said}
use Rattle.wire.proofs.JudgeLemmas.{given_by, good_causes, refuses_by, unrequired_one, unrequired_two}
use Rattle.wire.proofs.request.derived.causes_in.Goals as goal

pub returns-in_err-one : goal.returns-in_err-one
returns-in_err-one c =
    let p = err_from_is_err_and c.from_residual.result c.from_residual.ensures.1 in
    rw (p.1, p.2) (refuses_by _ _ BadRequirement _ _ c.in_err-one.ensures (λ bad. rw (unrequired_one (cause_said c.args.causes.now.0) (cause_said c.args.causes.now.1) bad)))

pub returns-in_err-two : goal.returns-in_err-two
returns-in_err-two c =
    let p = err_from_is_err_and c.from_residual-in_err-two.result c.from_residual-in_err-two.ensures.1 in
    rw (p.1, p.2) (refuses_by _ _ BadRequirement _ _ c.in_err-two.ensures (λ bad. rw (unrequired_two (cause_said c.args.causes.now.0) (cause_said c.args.causes.now.1) bad)))

pub returns : goal.returns
returns c =
    let one = given_by _ _ _ BadRequirement c.in_ok-one.ensures in
    let two = given_by _ _ _ BadRequirement c.in_ok-two.ensures in
    rw (good_causes (cause_said c.args.causes.now.0) (cause_said c.args.causes.now.1) one.0 two.0, one.1, two.1) refl
