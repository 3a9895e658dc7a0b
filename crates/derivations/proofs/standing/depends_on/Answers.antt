use Rattle.std.proofs.Common.{sym, true≢false}
use Rattle.derivations.proofs.Published.{depends_iff, independent}
use Rattle.derivations.proofs.standing.depends_on.Goals as goal

pub returns-in-None : goal.returns-in-None
returns-in-None c = (
  λ t. absurd (true≢false (sym t)),
  λ d. absurd (independent c.args.registry.now.packages c.args.pkg c.args.ordinal c.args.target c.args.need.now c.in-None.ensures.none d),
)

pub returns-in-Some : goal.returns-in-Some
returns-in-Some c =
    depends_iff c.args.registry.now.packages c.args.pkg c.args.ordinal c.args.target c.args.need.now _ c.has_need.result c.in-Some.ensures.some c.has_need.ensures
