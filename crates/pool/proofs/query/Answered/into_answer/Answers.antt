use Rattle.std.proofs.Common.{ℕ, subst}
use Rattle.pool.specs.Answering.{IsAnswerAt}
use Rattle.pool.proofs.query.Answered.into_answer.Goals as goal

pub returns : goal.returns
returns g c = subst (λ (index : ℕ). IsAnswerAt g.Q.Query.packages g.Q.Query.asked index c.self.inside.answer) c.self.view_is c.self.invariant
