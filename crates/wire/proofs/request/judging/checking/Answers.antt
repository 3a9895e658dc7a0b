use Rattle.std.proofs.lemmas.Result.{err_from_is_err_and}
use Rattle.versions.specs.declared.refusal.Refusal.TheVariants.{BadName, BadRequirement, BadVersion}
use Rattle.registry.specs.Requests.{Wanted}
use Rattle.wire.specs.Shapes.{check}
use Rattle.wire.proofs.JudgeLemmas.{AreTexts, asks_judged, both_named, given_by, judged_checking, misnamed_lock, misnamed_needs, refuses_by, refuses_judged, unrequired_lines, unrequired_needs}
use Rattle.wire.proofs.request.judging.checking.Goals as goal

pub returns-in_err-needed : goal.returns-in_err-needed
returns-in_err-needed c =
    let p = err_from_is_err_and c.from_residual.result c.from_residual.ensures.1 in
    rw (p.1, p.2) (refuses_by _ _ BadName _ _ c.in_err-needed.ensures (λ bad. rw (misnamed_needs c.args.needs.now c.args.lock.now bad)))

pub returns-in_err-locked : goal.returns-in_err-locked
returns-in_err-locked c =
    let p = err_from_is_err_and c.from_residual-in_err-locked.result c.from_residual-in_err-locked.ensures.1 in
    rw (p.1, p.2) (refuses_by _ _ BadName _ _ c.in_err-locked.ensures (λ bad. rw (misnamed_lock c.args.needs.now c.args.lock.now bad)))

pub returns-in_err-kept : goal.returns-in_err-kept
returns-in_err-kept c =
    let p = err_from_is_err_and c.from_residual-in_err-kept.result c.from_residual-in_err-kept.ensures.1 in
    let needed = given_by _ _ _ BadName c.in_ok-needed.ensures in
    let locked = given_by _ _ _ BadName c.in_ok-locked.ensures in
    let named = both_named c.args.needs.now c.args.lock.now needed.0 locked.0 in
    rw (p.1, p.2) (refuses_by _ _ BadVersion _ _ c.in_err-kept.ensures (λ bad. rw (named, bad)))

pub returns-in_err-wanted : goal.returns-in_err-wanted
returns-in_err-wanted c =
    let p = err_from_is_err_and c.from_residual-in_err-wanted.result c.from_residual-in_err-wanted.ensures.1 in
    let needed = given_by _ _ _ BadName c.in_ok-needed.ensures in
    let locked = given_by _ _ _ BadName c.in_ok-locked.ensures in
    let named = both_named c.args.needs.now c.args.lock.now needed.0 locked.0 in
    let lock = given_by _ _ _ BadVersion c.in_ok-kept.ensures in
    rw (p.1, p.2) (refuses_by _ _ BadRequirement _ _ c.in_err-wanted.ensures (λ bad. rw (named, lock.0, unrequired_needs c.args.needs.now c.args.lines.now bad)))

pub returns-in_err-derivation : goal.returns-in_err-derivation
returns-in_err-derivation c =
    let p = err_from_is_err_and c.from_residual-in_err-derivation.result c.from_residual-in_err-derivation.ensures.1 in
    let needed = given_by _ _ _ BadName c.in_ok-needed.ensures in
    let locked = given_by _ _ _ BadName c.in_ok-locked.ensures in
    let named = both_named c.args.needs.now c.args.lock.now needed.0 locked.0 in
    let lock = given_by _ _ _ BadVersion c.in_ok-kept.ensures in
    rw (p.1, p.2) (refuses_by _ _ BadRequirement _ _ c.in_err-derivation.ensures (λ bad. rw (named, lock.0, unrequired_lines c.args.needs.now c.args.lines.now bad)))

pub returns-in_err-request : goal.returns-in_err-request
returns-in_err-request c =
    let p = err_from_is_err_and c.from_residual-in_err-request.result c.from_residual-in_err-request.ensures.1 in
    let needed = given_by _ _ _ BadName c.in_ok-needed.ensures in
    let locked = given_by _ _ _ BadName c.in_ok-locked.ensures in
    let lock = given_by _ _ _ BadVersion c.in_ok-kept.ensures in
    let needs = given_by _ _ _ BadRequirement c.in_ok-wanted.ensures in
    let derived = given_by _ _ _ BadRequirement c.in_ok-derivation.ensures in
    let texts : AreTexts c.args.needs.now c.args.lock.now = record { named = both_named c.args.needs.now c.args.lock.now needed.0 locked.0; versioned = lock.0; required = needs.0 } in
    let ask = λ (wanted : Wanted). check wanted c.args.lines.now in
    rw (p.1, p.2) (refuses_judged ask _ _ _ _ (judged_checking c.args.needs.now c.args.lock.now c.args.lines.now texts derived.0) needs.1 lock.1 _ c.in_err-request.ensures)

pub returns : goal.returns
returns c =
    let needed = given_by _ _ _ BadName c.in_ok-needed.ensures in
    let locked = given_by _ _ _ BadName c.in_ok-locked.ensures in
    let lock = given_by _ _ _ BadVersion c.in_ok-kept.ensures in
    let needs = given_by _ _ _ BadRequirement c.in_ok-wanted.ensures in
    let derived = given_by _ _ _ BadRequirement c.in_ok-derivation.ensures in
    let texts : AreTexts c.args.needs.now c.args.lock.now = record { named = both_named c.args.needs.now c.args.lock.now needed.0 locked.0; versioned = lock.0; required = needs.0 } in
    let ask = λ (wanted : Wanted). check wanted c.args.lines.now in
    rw derived.1 (asks_judged ask _ _ _ _ (judged_checking c.args.needs.now c.args.lock.now c.args.lines.now texts derived.0) needs.1 lock.1 _ c.in_ok-request.ensures)
