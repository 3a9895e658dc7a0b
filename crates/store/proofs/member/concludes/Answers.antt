use Rattle.store.proofs.Concluding.{concluded_as}
use Rattle.store.proofs.member.concludes.Goals as goal

pub returns : goal.returns
returns c = concluded_as c.args.member.now c.args.conclusion.now _ c.is_same.result c.conclusion.ensures c.is_same.ensures
