use Rattle.std.proofs.Common.{subst}
use Rattle.terms.specs.Sets.{IsAscending}
use Rattle.terms.proofs.WordLists.{IsAscending-ordinals_of}
use Rattle.terms.proofs.sets.VSet.iter.Goals as goal

pub returns-clause-ascending : goal.returns-clause-ascending
returns-clause-ascending c = subst (λ l. IsAscending l) c.self.view_is (IsAscending-ordinals_of c.self.inside.words.items c.self.invariant)
