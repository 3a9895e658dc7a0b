use Rattle.std.proofs.Common.{◌≡◌, false}
use Rattle.registry.specs.Requests.{is_allowed}
use Rattle.derivations.proofs.Asking.{IsAsked}
use Rattle.derivations.proofs.causes.is_none_allowed.Given as goal

abbrev pub invariant-loop-ordinal : goal.invariant-loop-ordinal
invariant-loop-ordinal l =
    (goal.iterator-loop-ordinal).can_next l.ordinal-iterator ×
    (goal.iterator-loop-ordinal).is_finite l.ordinal-iterator ×
    IsAsked (λ k. is_allowed l.registry.packages l.request l.pkg k ≡ false) l.versions l.ordinal-iterator
