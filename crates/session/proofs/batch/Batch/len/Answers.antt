use Rattle.std.proofs.Common.{◌∙◌, ap, length}
use Rattle.session.proofs.batch.Batch.len.Goals as goal

pub returns : goal.returns
returns c = c.len.ensures ∙ c.self.inside.asked.ok.0 ∙ ap length c.self.view_is
