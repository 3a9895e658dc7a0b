use Rattle.std.proofs.Common.{[]}
use Rattle.derivations.proofs.Lasting.{AllStand-derived}
use Rattle.derivations.proofs.laws.derived_lines_stand.Goals as goal

pub returns : goal.returns
returns c = λ packages wanted lines. AllStand-derived packages wanted [] lines
