use Rattle.std.proofs.Common.{◌-◌, ◌∙◌, ap, length, sym}
use Rattle.walk.specs.Choosing.{choice_of}
use Rattle.walk.specs.Pages.{ChosenEntries}
use Rattle.walk.proofs.Choices.{part_chosen}
use Rattle.walk.proofs.choice_map.ChoiceMap.since.Goals as goal

pub returns-clause-chosen : goal.returns-clause-chosen
returns-clause-chosen c = λ p k h.
    let entries = c.self.inside.entries.items in
    let part = c.deref.result.now in
    ap (λ (m : ChosenEntries). choice_of m.entries p) (sym c.self.view_is)
    ∙ part_chosen part entries (length part - c.args.place) c.args.place p k c.deref.ensures.value c.self.invariant.0 h
