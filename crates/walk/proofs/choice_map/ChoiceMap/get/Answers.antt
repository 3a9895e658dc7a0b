use Rattle.std.proofs.Common.{◌∙◌, ap}
use Rattle.walk.specs.Choosing.{choice_of}
use Rattle.walk.specs.Pages.{ChosenEntries}
use Rattle.walk.proofs.choice_map.ChoiceMap.get.Goals as goal

pub returns : goal.returns
returns c = c.get.ensures ∙ c.self.invariant.1 c.args.pkg ∙ ap (λ (m : ChosenEntries). choice_of m.entries c.args.pkg) c.self.view_is
