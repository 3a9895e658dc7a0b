use Rattle.std.proofs.Common.{◌<◌, ◌∙◌, ap, length, refl, subst, sym}
use Rattle.std.proofs.lemmas.Option.{slice_get_read}
use Rattle.walk.specs.Choosing.{choice_of}
use Rattle.walk.specs.Pages.{ChosenEntries}
use Rattle.walk.proofs.Choices.{entry_chosen}
use Rattle.walk.proofs.choice_map.ChoiceMap.at.Goals as goal

pub returns-clause-chosen : goal.returns-clause-chosen
returns-clause-chosen c =
    let entries = c.self.inside.entries.items in
    let within : c.args.place < length entries = subst (λ (m : ChosenEntries). c.args.place < length m.entries) (sym c.self.view_is) c.requires in
    ap (λ (m : ChosenEntries). choice_of m.entries c.index.result.now.0) (sym c.self.view_is)
    ∙ entry_chosen entries c.args.place c.index.result.now c.self.invariant.0 (slice_get_read entries (length entries) c.args.place c.index.result.now refl within c.index.ensures)
