use Rattle.facts.specs.Pushing.{same_lines}
use Rattle.checker.proofs.replaying.take_step.Goals as goal

pub returns-in-None : goal.returns-in-None
returns-in-None c = same_lines
