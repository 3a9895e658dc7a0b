use Rattle.walk.proofs.AnswerRows.{packages}
use Rattle.walk.proofs.AnswerLaws.{one-answer}
use Rattle.walk.proofs.laws.one_answer.Goals as goal

pub returns : goal.returns
returns c = one-answer c.the_highest_is_one.ensures c.names_have_their_numbers.ensures c.precedence_is_a_total_preorder.ensures
