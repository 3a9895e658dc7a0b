use Rattle.std.proofs.Common.{◌∙◌}
use Rattle.versions.proofs.PrecedenceLemmas.{precedence-read}
use Rattle.versions.proofs.precedence.order.Goals as goal

pub returns : goal.returns
returns c =
    c.cmp_precedence.ensures
    ∙ precedence-read _ _ c.parsed.result.now c.parsed-2.result.now c.parsed.ensures c.parsed-2.ensures
