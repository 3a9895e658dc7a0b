use Rattle.versions.proofs.BoundLemmas.{both}
use Rattle.versions.proofs.bounds.Range.and.Goals as goal

pub returns : goal.returns
returns c = both (record { lowest = c.later.result; end = c.first_end.result }) c.args.self c.args.other c.later.ensures c.first_end.ensures
