use Rattle.versions.proofs.PreReleaseLemmas.{pre_releases-named}
use Rattle.versions.proofs.need.pre_releases_are_named.Goals as goal

pub returns : goal.returns
returns c = pre_releases-named
