use Rattle.checker.proofs.Conclusions.{Refutes-IsShown}
use Rattle.checker.proofs.laws.shown_holds.Goals as goal

pub returns : goal.returns
returns c = Refutes-IsShown c.kept_lines_hold.ensures
