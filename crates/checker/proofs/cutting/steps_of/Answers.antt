use Rattle.std.proofs.Common.{refl}
use Rattle.checker.proofs.cutting.steps_of.Goals as goal

pub numbered_steps-requires-clause-clear : goal.numbered_steps-requires-clause-clear
numbered_steps-requires-clause-clear c = record { lengths = c.in_ok-numbers.ensures.length; zeros = c.in_ok-numbers.ensures.zeros }

pub returns-clause-shows : goal.returns-clause-shows
returns-clause-shows c = c.in_ok-walked.ensures.shows (c.in_ok-walked.ensures.whole refl)
