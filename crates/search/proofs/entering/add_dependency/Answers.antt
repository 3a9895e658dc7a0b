use Rattle.facts.specs.Pushing.{same_lines}
use Rattle.search.proofs.entering.add_dependency.Goals as goal

-- where nothing is added

pub returns-then-has_dependency : goal.returns-then-has_dependency
returns-then-has_dependency c = same_lines
