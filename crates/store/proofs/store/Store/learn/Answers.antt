use Rattle.store.proofs.Storing.{learned-stand}
use Rattle.store.proofs.store.Store.learn.Goals as goal

pub returns-clause-stand : goal.returns-clause-stand
returns-clause-stand c = λ stand.
    learned-stand c.learning_keeps.ensures c.add.result c.args.registry.now.packages c.args.self.now.members _ c.args.learnt c.add.ensures.accepted c.add.ensures.learnt c.add.ensures.unchanged stand
