use Rattle.checker.proofs.Conclusions.{IsShown-line}
use Rattle.checker.proofs.laws.kept_lines_are_shown.Goals as goal

pub returns : goal.returns
returns c = IsShown-line
