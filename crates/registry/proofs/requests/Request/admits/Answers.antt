use Rattle.std.proofs.Common.{◌∙◌, sym}
use Rattle.registry.proofs.requests.Request.admits.Goals as goal

pub returns : goal.returns
returns c = c.admits.ensures ∙ sym (c.need_on.ensures.met c.args.version.now)
