use Rattle.facts.proofs.Extending.{AreLines-push}
use Rattle.facts.proofs.laws.lines_grow.Goals as goal

pub returns : goal.returns
returns c = AreLines-push
