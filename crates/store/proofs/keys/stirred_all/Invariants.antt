use Rattle.std.proofs.Common.{◌≡◌}
use Rattle.store.specs.Keys.{stirred_all}
use Rattle.store.proofs.keys.stirred_all.Given as goal

abbrev pub invariant-loop-ordinal : goal.invariant-loop-ordinal
invariant-loop-ordinal l =
    (goal.iterator-loop-ordinal).can_next l.ordinal-iterator ×
    (goal.iterator-loop-ordinal).is_finite l.ordinal-iterator ×
    (stirred_all l.stirring l.ordinal-iterator ≡ stirred_all l.key l.set)
