use Rattle.std.proofs.Common.{ℕ, subst}
use Rattle.pool.specs.Answering.{IsAnswerAt}
use Rattle.pool.proofs.in_order.Answers.next.Goals as goal

pub returns-clause-answer : goal.returns-clause-answer
returns-clause-answer g c =
    subst (λ (index : ℕ). IsAnswerAt g.Q.Query.packages g.Q.Query.asked index c.into_answer.result) c.take_next-found.ensures.found c.into_answer.ensures
