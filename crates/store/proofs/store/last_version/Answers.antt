use Rattle.std.proofs.Common.{◌∙◌, ◌-◌, ap, sym}
use Rattle.std.specs.Option.{option_copied}
use Rattle.store.specs.Stored.{meets_some}
use Rattle.store.proofs.Resting.{last-none, last-read}
use Rattle.store.proofs.store.last_version.Goals as goal

pub returns-in_err-facts_at : goal.returns-in_err-facts_at
returns-in_err-facts_at c = λ need.
    last-none c.args.registry.now.packages c.args.pkg c.saturating_sub-last.result (c.saturating_sub-last.ensures ∙ ap (λ n. n - 1) c.version_count.ensures) c.in_err-facts_at.ensures.none need
    ∙ sym (ap (λ o. meets_some (option_copied o) need) c.from_residual.ensures)

pub returns : goal.returns
returns c =
    last-read c.args.registry.now.packages c.args.pkg c.saturating_sub-last.result _ (c.saturating_sub-last.ensures ∙ ap (λ n. n - 1) c.version_count.ensures) c.in_ok-facts_at.ensures.some
