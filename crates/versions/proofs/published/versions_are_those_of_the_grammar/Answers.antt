use Rattle.versions.proofs.VersionTextLemmas.{versions-of_the_grammar}
use Rattle.versions.proofs.published.versions_are_those_of_the_grammar.Goals as goal

pub returns : goal.returns
returns c = versions-of_the_grammar
