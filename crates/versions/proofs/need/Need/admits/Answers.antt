use Rattle.std.proofs.Common.{◌∙◌}
use Rattle.versions.proofs.ReadingLemmas.{meets-read}
use Rattle.versions.proofs.need.Need.admits.Goals as goal

pub returns : goal.returns
returns c =
    c.matches.ensures
    ∙ meets-read _ _ c.parsed.result.now.comparators.items c.parsed-2.result.now c.parsed.ensures c.parsed-2.ensures
