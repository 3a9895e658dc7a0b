use Rattle.std.proofs.Common.{◌∙◌, ap, drop}
use Rattle.session.proofs.batch.Batch.leave_out.Goals as goal

pub drop_first-requires : goal.drop_first-requires
drop_first-requires c = rw c.self.view_is c.requires

pub returns : goal.returns
returns c = c.drop_first.ensures.items ∙ ap (drop c.args.count) c.self.view_is
