use Rattle.std.proofs.Common.{◌∙◌, ap, length, sym}
use Rattle.std.specs.Prelude.{slice_get}
use Rattle.registry.specs.Registry.{needs_or_none}
use Rattle.registry.proofs.PackageLemmas.{publication_at-versions}
use Rattle.registry.proofs.registry.Registry.needs_count.Goals as goal

pub returns-in-None : goal.returns-in-None
returns-in-None c =
    let at = publication_at-versions c.args.self.now.packages c.args.pkg c.args.ordinal in
    ap (λ l. length (needs_or_none (slice_get l c.args.ordinal))) c.in-None.ensures.publications ∙ sym (ap (λ o. length (needs_or_none o)) at)

pub returns-in-Some : goal.returns-in-Some
returns-in-Some c =
    let at = publication_at-versions c.args.self.now.packages c.args.pkg c.args.ordinal in
    c.needs_count.ensures ∙ ap (λ l. length (needs_or_none (slice_get l c.args.ordinal))) c.in-Some.ensures.publications ∙ sym (ap (λ o. length (needs_or_none o)) at)
