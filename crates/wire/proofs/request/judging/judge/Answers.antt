use Rattle.std.proofs.Common.{refl}
use Rattle.std.proofs.lemmas.Result.{err_from_is_err_and}
use Rattle.versions.specs.Words.{Text}
use Rattle.registry.specs.Step.{Unyank, Yank}
use Rattle.wire.specs.Shapes.{command}
use Rattle.wire.proofs.JudgeLemmas.{gives_marking, refuses_marking}
use Rattle.wire.proofs.request.judging.judge.Goals as goal

pub returns-in-Publish : goal.returns-in-Publish
returns-in-Publish c = rw c.in-Publish.is c.publication.ensures

pub returns-in_err-name-in-Yank : goal.returns-in_err-name-in-Yank
returns-in_err-name-in-Yank c =
    let p = err_from_is_err_and c.from_residual.result c.from_residual.ensures.1 in
    rw (p.1, p.2, c.in-Yank.is) (refuses_marking _ _ _ _ _ c.in_err-name-in-Yank.ensures)

pub returns-in_ok-name-in-Yank : goal.returns-in_ok-name-in-Yank
returns-in_ok-name-in-Yank c = rw c.in-Yank.is (gives_marking _ _ _ _ (λ (p : Text × Text). command (Yank p.0 p.1)) c.in_ok-name-in-Yank.ensures)

pub returns-in_err-name-in-Unyank : goal.returns-in_err-name-in-Unyank
returns-in_err-name-in-Unyank c =
    let p = err_from_is_err_and c.from_residual-in_err-name-in-Unyank.result c.from_residual-in_err-name-in-Unyank.ensures.1 in
    rw (p.1, p.2, c.in-Unyank.is) (refuses_marking _ _ _ _ _ c.in_err-name-in-Unyank.ensures)

pub returns-in_ok-name-in-Unyank : goal.returns-in_ok-name-in-Unyank
returns-in_ok-name-in-Unyank c = rw c.in-Unyank.is (gives_marking _ _ _ _ (λ (p : Text × Text). command (Unyank p.0 p.1)) c.in_ok-name-in-Unyank.ensures)

pub returns-in-Resolve : goal.returns-in-Resolve
returns-in-Resolve c = rw c.in-Resolve.is c.resolution.ensures

pub returns-in-Check : goal.returns-in-Check
returns-in-Check c = rw c.in-Check.is c.checking.ensures

pub returns-in-Listing : goal.returns-in-Listing
returns-in-Listing c = rw c.in-Listing.is refl
