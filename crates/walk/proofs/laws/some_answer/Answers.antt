use Rattle.walk.proofs.AnswerLaws.{some-answer}
use Rattle.walk.proofs.laws.some_answer.Goals as goal

pub returns : goal.returns
returns c =
    some-answer c.ordinals_are_below_the_count.ensures.published c.ordinals_are_below_the_count.ensures.numbered c.allowed_is_published.ensures c.precedence_is_a_total_preorder.ensures
