use Rattle.std.proofs.Common.{ℕ, ◌∙◌, sym, ap}
use Rattle.std.proofs.lemmas.Result.{err_from_is_err_and}
use Rattle.std.specs.List.{slice_get}
use Rattle.versions.specs.Words.{Text, is_version}
use Rattle.versions.specs.declared.refusal.Refusal.TheVariants.{BadVersion}
use Rattle.wire.proofs.JudgeLemmas.{refuses_by, given_by, fails_at, read_all, read_more, read_none, read_within}
use Rattle.wire.proofs.request.judging.lock_in.Goals as goal

pub loop-name-init : goal.loop-name-init
loop-name-init c =
    read_none _ c.args.lock.now _ _ _ (c.into_iter-name-iterator.ensures.into_iter_gives.0 ∙ c.requires) c.in_ok-read.ensures.items c.in_ok-read.ensures.len

pub at-requires : goal.at-requires
at-requires c = rw c.len-in-loop-name.ensures (read_within _ _ _ _ _ _ _ c.loop-name.invariant c.in-Some.ensures.steps.0)

pub returns-in_err-read-2 : goal.returns-in_err-read-2
returns-in_err-read-2 c =
    let p = err_from_is_err_and c.from_residual-in_err-read-2.result c.from_residual-in_err-read-2.ensures.1 in
    rw (p.1, p.2) (refuses_by _ _ BadVersion _ _ c.in_err-read-2.ensures.gives (λ bad. rw (fails_at (λ (d : Text × Text). d.1) is_version c.args.lock.now _ _ c.at.ensures bad)))

pub loop-name-preserved : goal.loop-name-preserved
loop-name-preserved c =
    let at = ap (λ (n : ℕ). slice_get c.args.lock.now n) (sym c.len-in-loop-name.ensures) ∙ c.at.ensures in
    let read = given_by _ _ _ BadVersion c.in_ok-read-2.ensures.gives in
    rw (c.in_ok-push.ensures.items, c.in_ok-push.ensures.len)
    (read_more is_version c.args.lock.now _ _ c.loop-name.read.items _ c.in-Some.name _ _ c.loop-name.invariant c.in-Some.ensures.steps.0 at read.1 read.0)

pub returns : goal.returns
returns c =
    read_all is_version c.args.lock.now _ c.loop-name.read.items _ BadVersion c.loop-name.invariant (sym c.loop-name.name-iterator.rest.ok.0 ∙ c.in-None.ensures.steps.0)
