use Rattle.std.proofs.Common.{◌∙◌, sym}
use Rattle.registry.proofs.requests.Request.is_locked.Goals as goal

pub returns : goal.returns
returns c = c.locks.ensures ∙ sym (c.locked.ensures.named c.args.version.now)
