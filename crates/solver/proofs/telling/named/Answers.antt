use Rattle.solver.proofs.telling.named.Goals as goal

pub name-requires-clause-first : goal.name-requires-clause-first
name-requires-clause-first c = (c.ordinals_are_below_the_count.ensures.numbered c.args.registry.now.packages c.args.chosen.now.0 c.args.chosen.now.1 c.requires).0

pub name-requires-clause-last : goal.name-requires-clause-last
name-requires-clause-last c = (c.ordinals_are_below_the_count.ensures.numbered c.args.registry.now.packages c.args.chosen.now.0 c.args.chosen.now.1 c.requires).1
