use Rattle.registry.specs.Commands.{change_of}
use Rattle.store.proofs.Storing.{followed-stand}
use Rattle.store.proofs.store.Store.follow.Goals as goal

pub returns-clause-stand : goal.returns-clause-stand
returns-clause-stand c = λ packages accepted e stand.
    followed-stand c.commands_keep.ensures.stand packages c.args.registry.now.packages (change_of c.args.command.now) c.args.self.now.members _ c.drop_ended.ensures accepted e stand
