-- Outcomes as answers.
use Rattle.derivations.specs.Laws.{DerivationsRefute}
use Rattle.solver.specs.declared.outcome.Outcome.TheVariants as outcome
use Rattle.solver.specs.Laws.{OutcomeIsAnswer}

-- a lawful outcome is the answer of its request
pub outcome_is_answer : DerivationsRefute → OutcomeIsAnswer
outcome_is_answer refute packages wanted explain (outcome.Selection list offered) lawful = lawful.0
outcome_is_answer refute packages wanted explain (outcome.NoSelection offered) lawful = lawful.1.none
outcome_is_answer refute packages wanted explain (outcome.Refused derivation offered) lawful = refute packages wanted derivation lawful.1
