use Rattle.walk.proofs.newest.is_out.Goals as goal

pub returns : goal.returns
returns g c = λ yes. c.requires.shows c.args.prefix.now.choosing.now.found.entries c.args.pkg c.args.ordinal (c.rules_out.ensures yes)
