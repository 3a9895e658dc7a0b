use Rattle.versions.proofs.PrecedenceLemmas.{precedence_total}
use Rattle.versions.proofs.precedence.precedence_is_a_total_preorder.Goals as goal

pub returns : goal.returns
returns c = precedence_total
