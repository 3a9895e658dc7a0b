use Rattle.std.proofs.Common.{◌∙◌, ap}
use Rattle.registry.specs.Registry.{has_yank}
use Rattle.registry.proofs.registry.Registry.has_yanks.Goals as goal

pub returns-in-None : goal.returns-in-None
returns-in-None c = ap has_yank c.in-None.ensures.publications

pub returns-in-Some : goal.returns-in-Some
returns-in-Some c = c.has_yanks.ensures ∙ ap has_yank c.in-Some.ensures.publications
