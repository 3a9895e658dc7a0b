use Rattle.store.proofs.Storing.{commands-keep, learnt_after}
use Rattle.store.proofs.laws.commands_keep.Goals as goal

pub returns-clause-stand : goal.returns-clause-stand
returns-clause-stand c = commands-keep c.numbers_last.ensures

pub returns-clause-learnt : goal.returns-clause-learnt
returns-clause-learnt c = learnt_after
