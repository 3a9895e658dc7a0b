use Rattle.solver.proofs.Outcomes.{outcome_is_answer}
use Rattle.solver.proofs.laws.an_outcome_is_the_answer.Goals as goal

pub returns : goal.returns
returns c = outcome_is_answer c.derivations_refute.ensures
