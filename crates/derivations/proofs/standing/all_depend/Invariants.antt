use Rattle.derivations.specs.Facts.{DependsOn}
use Rattle.derivations.proofs.Asking.{IsAsked}
use Rattle.derivations.proofs.standing.all_depend.Given as goal

abbrev pub invariant-loop-ordinal : goal.invariant-loop-ordinal
invariant-loop-ordinal l =
    (goal.iterator-loop-ordinal).can_next l.ordinal-iterator ×
    (goal.iterator-loop-ordinal).is_finite l.ordinal-iterator ×
    IsAsked (λ k. DependsOn l.registry.packages l.premise.package k l.premise.target l.premise.need) l.premise.versions l.ordinal-iterator
