use Rattle.checker.proofs.Conclusions.{IsRefuted-IsShown}
use Rattle.checker.proofs.laws.shown_refutes.Goals as goal

pub returns : goal.returns
returns c = IsRefuted-IsShown c.kept_lines_refute.ensures
