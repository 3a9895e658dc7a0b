use Rattle.std.proofs.Common.{false}
use Rattle.releases.specs.Releases.{versions_of}
use Rattle.releases.proofs.Standing.{each-ordinal, highest-none, highest-some}
use Rattle.releases.proofs.releases.Releases.highest_where.Goals as goal

pub returns-clause-some : goal.returns-clause-some
returns-clause-some g c =
    rw (← c.self.view_is) (highest-some (goal.F-post g c.args.passes) (versions_of c.self.inside.releases.items) c.self.inside.rising.items
    c.self.invariant.in_order c.precedence_is_a_total_preorder.ensures c.highest_of.result (rw c.deref.ensures.value at c.highest_of.ensures.some))

pub returns-clause-none : goal.returns-clause-none
returns-clause-none g c =
    rw (← c.self.view_is) (each-ordinal c.self.inside.releases.items (λ k. goal.F-post g c.args.passes k false) c.highest_of.result
    (highest-none (goal.F-post g c.args.passes) (versions_of c.self.inside.releases.items) c.self.inside.rising.items
    c.self.invariant.in_order c.highest_of.result (rw c.deref.ensures.value at c.highest_of.ensures.none)))
