use Rattle.std.proofs.Common.{◌∙◌, sym}
use Rattle.store.proofs.Resting.{published-by, published-none}
use Rattle.store.proofs.store.Store.published.Goals as goal

pub returns-in_default : goal.returns-in_default
returns-in_default c = sym (published-none c.args.registry.now.packages c.args.pkg c.args.self.now.members c.in_default.ensures)

pub returns : goal.returns
returns c =
    published-by c.args.registry.now.packages c.args.pkg c.in-Some.version.now c.args.self.now.members _ c.in-Some.ensures
    (c.tidy_if_empty.ensures ∙ c.drop_met.ensures)
