use Rattle.registry.proofs.SelectionLaws.{preferred-once}
use Rattle.registry.proofs.laws.one_preferred_selection.Goals as goal

pub returns : goal.returns
returns c = preferred-once
