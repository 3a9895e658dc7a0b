use Rattle.std.proofs.Common.{◌∙◌, ap}
use Rattle.versions.specs.Words.{Text}
use Rattle.facts.proofs.Entries.{entry_found}
use Rattle.facts.proofs.dependents.is_at.Goals as goal

pub returns : goal.returns
returns c same =
    let both = c.is_entry.ensures.0 same in
    let read = c.index-facts-place.is in
    entry_found c.args.task.now.registry.now.packages c.args.pkg c.args.place.ordinal _ c.args.place.index c.index-facts-place.result c.args.entry.now c.in-Some.ensures.some c.if-place-facts.false read
    (ap (λ (x : Text × Text). x.0) read ∙ both.0) (ap (λ (x : Text × Text). x.1) read ∙ both.1)
