use Rattle.derivations.proofs.Written.{get_elsewhere, get_written}
use Rattle.derivations.proofs.cited.keep.Goals as goal

pub returns-clause-own : goal.returns-clause-own
returns-clause-own c = get_written c.args.kept.now.items c.args.index c.args.fact c.requires

pub returns-clause-other : goal.returns-clause-other
returns-clause-other c = λ i apart. get_elsewhere c.args.kept.now.items c.args.index i c.args.fact apart
