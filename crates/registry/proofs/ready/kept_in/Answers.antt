use Rattle.registry.proofs.ReadyLemmas.{kept-same}
use Rattle.registry.proofs.ready.kept_in.Goals as goal

pub returns-clause-same : goal.returns-clause-same
returns-clause-same c = kept-same c.get_full.result c.args.name.now c.args.names.now.keys c.get_full.ensures.key
