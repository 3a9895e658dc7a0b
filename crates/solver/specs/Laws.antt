-- What holds of outcomes, whatever led to them.
use Rattle.std.specs.Prelude.{Bool}
use Rattle.registry.specs.Registry.{Packages}
use Rattle.registry.specs.Requests.{Wanted}
use Rattle.solver.specs.declared.outcome.Outcome.{Outcome}
use Rattle.solver.specs.Outcomes.{IsAnswer, IsLawful, answer_of}

-- a lawful outcome is the answer of its request
abbrev pub OutcomeIsAnswer : Type 0
OutcomeIsAnswer = (packages : Packages) (wanted : Wanted) (explain : Bool) (outcome : Outcome) → IsLawful packages wanted explain outcome → IsAnswer packages wanted (answer_of outcome)
