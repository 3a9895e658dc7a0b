use Rattle.std.proofs.lemmas.Result.{err_from_is_err_and}
use Rattle.versions.specs.declared.refusal.Refusal.TheVariants.{BadName, BadRequirement, BadVersion}
use Rattle.registry.specs.Requests.{Wanted}
use Rattle.wire.specs.Shapes.{resolve}
use Rattle.wire.proofs.JudgeLemmas.{AreTexts, asks_judged, both_named, given_by, judged_resolution, misnamed_lock, misnamed_needs, refuses_by, refuses_judged}
use Rattle.wire.proofs.request.judging.resolution.Goals as goal

pub returns-in_err-needed : goal.returns-in_err-needed
returns-in_err-needed c =
    let p = err_from_is_err_and c.from_residual.result c.from_residual.ensures.1 in
    rw (p.1, p.2) (refuses_by _ _ BadName _ _ c.in_err-needed.ensures (λ bad. rw (misnamed_needs c.args.needs.now c.args.lock.now bad)))

pub returns-in_err-locked : goal.returns-in_err-locked
returns-in_err-locked c =
    let p = err_from_is_err_and c.from_residual-in_err-locked.result c.from_residual-in_err-locked.ensures.1 in
    rw (p.1, p.2) (refuses_by _ _ BadName _ _ c.in_err-locked.ensures (λ bad. rw (misnamed_lock c.args.needs.now c.args.lock.now bad)))

pub returns-in_err-lock : goal.returns-in_err-lock
returns-in_err-lock c =
    let p = err_from_is_err_and c.from_residual-in_err-lock.result c.from_residual-in_err-lock.ensures.1 in
    let needed = given_by _ _ _ BadName c.in_ok-needed.ensures in
    let locked = given_by _ _ _ BadName c.in_ok-locked.ensures in
    let named = both_named c.args.needs.now c.args.lock.now needed.0 locked.0 in
    rw (p.1, p.2) (refuses_by _ _ BadVersion _ _ c.in_err-lock.ensures (λ bad. rw (named, bad)))

pub returns-in_err-needs : goal.returns-in_err-needs
returns-in_err-needs c =
    let p = err_from_is_err_and c.from_residual-in_err-needs.result c.from_residual-in_err-needs.ensures.1 in
    let needed = given_by _ _ _ BadName c.in_ok-needed.ensures in
    let locked = given_by _ _ _ BadName c.in_ok-locked.ensures in
    let named = both_named c.args.needs.now c.args.lock.now needed.0 locked.0 in
    let lock = given_by _ _ _ BadVersion c.in_ok-lock.ensures in
    rw (p.1, p.2) (refuses_by _ _ BadRequirement _ _ c.in_err-needs.ensures (λ bad. rw (named, lock.0, bad)))

pub returns-in_err-request : goal.returns-in_err-request
returns-in_err-request c =
    let p = err_from_is_err_and c.from_residual-in_err-request.result c.from_residual-in_err-request.ensures.1 in
    let needed = given_by _ _ _ BadName c.in_ok-needed.ensures in
    let locked = given_by _ _ _ BadName c.in_ok-locked.ensures in
    let lock = given_by _ _ _ BadVersion c.in_ok-lock.ensures in
    let needs = given_by _ _ _ BadRequirement c.in_ok-needs.ensures in
    let texts : AreTexts c.args.needs.now c.args.lock.now = record { named = both_named c.args.needs.now c.args.lock.now needed.0 locked.0; versioned = lock.0; required = needs.0 } in
    let ask = λ (wanted : Wanted). resolve wanted c.args.explain c.args.budget in
    rw (p.1, p.2) (refuses_judged ask _ _ _ _ (judged_resolution c.args.needs.now c.args.lock.now c.args.explain c.args.budget texts) needs.1 lock.1 _ c.in_err-request.ensures)

pub returns : goal.returns
returns c =
    let needed = given_by _ _ _ BadName c.in_ok-needed.ensures in
    let locked = given_by _ _ _ BadName c.in_ok-locked.ensures in
    let lock = given_by _ _ _ BadVersion c.in_ok-lock.ensures in
    let needs = given_by _ _ _ BadRequirement c.in_ok-needs.ensures in
    let texts : AreTexts c.args.needs.now c.args.lock.now = record { named = both_named c.args.needs.now c.args.lock.now needed.0 locked.0; versioned = lock.0; required = needs.0 } in
    let ask = λ (wanted : Wanted). resolve wanted c.args.explain c.args.budget in
    asks_judged ask _ _ _ _ (judged_resolution c.args.needs.now c.args.lock.now c.args.explain c.args.budget texts) needs.1 lock.1 _ c.in_ok-request.ensures
