use Rattle.versions.proofs.PrecedenceLemmas.{same_precedence-tie, same_precedence_equiv}
use Rattle.versions.proofs.precedence.equal_precedence_is_an_equivalence.Goals as goal

pub returns-clause-equivalence : goal.returns-clause-equivalence
returns-clause-equivalence c = same_precedence_equiv

pub returns-clause-tie : goal.returns-clause-tie
returns-clause-tie c = same_precedence-tie
