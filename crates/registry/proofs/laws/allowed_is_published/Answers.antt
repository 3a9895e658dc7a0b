use Rattle.registry.proofs.RequestLemmas.{allowed-published}
use Rattle.registry.proofs.laws.allowed_is_published.Goals as goal

pub returns : goal.returns
returns c = allowed-published
