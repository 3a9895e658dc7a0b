use Rattle.std.proofs.Common.{◌∙◌, sym}
use Rattle.walk.proofs.Allowed.{allowed_by_count}
use Rattle.walk.proofs.walking.is_allowed.Goals as goal

pub returns : goal.returns
returns c =
    allowed_by_count c.args.registry.now.packages c.args.request.now c.args.pkg c.args.ordinal c.versions.result c.versions.ensures
    (sym c.has_yanks.ensures ∙ c.if-has_yanks.false)
