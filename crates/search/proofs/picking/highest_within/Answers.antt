use Rattle.std.proofs.Common.{◌≡◌, ◌<◌, ℕ, false, length, rules}
use Rattle.registry.specs.Registry.{package_at, versions_or_none}
use Rattle.search.specs.Picking.{is_choosable}
use Rattle.search.proofs.Decisions.{IfNone-then}
use Rattle.search.proofs.picking.highest_within.Goals as goal

pub returns-clause-none : goal.returns-clause-none
returns-clause-none c =
    let Fails : Type 0 = (k : ℕ) → k < length (versions_or_none (package_at c.args.task.now.registry.now.packages c.args.pkg)) → is_choosable c.args.task.now c.args.pkg c.args.said.now k ≡ false in
    IfNone-then {Q = Fails} c.highest_where.result c.highest_where.ensures.none (λ h k lt. let one = h k lt in search rules)
