use Rattle.std.proofs.Common.{◌≡◌, length}
use Rattle.store.specs.Keys.{key_of, stirred_terms}
use Rattle.store.proofs.keys.key_of.Given as goal

abbrev pub invariant-stir : goal.invariant-stir
invariant-stir l = stirred_terms l.key l.left ≡ key_of l.conclusion

abbrev pub decreases-stir : goal.decreases-stir
decreases-stir l = length l.left
