use Rattle.std.proofs.Common.{◌≡◌, sym}
use Rattle.std.specs.Prelude.{Some}
use Rattle.derivations.specs.Derivations.{last_conclusion}
use Rattle.derivations.proofs.Sound.{on_true_ok}
use Rattle.derivations.proofs.derivation.check.Goals as goal

pub returns-then-is_end-clause-sound : goal.returns-then-is_end-clause-sound
returns-then-is_end-clause-sound c =
    let last : last_conclusion c.lines-lines.result.now ≡ Some c.in-Some.conclusion.now = sym c.in-Some.ensures in
    on_true_ok c.are_derived.result (λ derived. c.derivations_refute.ensures c.args.registry.now.packages c.args.request.now c.lines-lines.result.now
    (record { derived = derived; conclusion = c.in-Some.conclusion.now; last = last; ended = c.is_end.ensures.0 c.if-is_end.true }))
    c.are_derived.ensures
