use Rattle.registry.proofs.PlaceLemmas.{part-none}
use Rattle.registry.proofs.span.part_of.Goals as goal

pub returns-in-None : goal.returns-in-None
returns-in-None c = part-none c.args.places.now c.args.span.from c.args.span.to c.in-None.ensures.lookup.0 c.requires
