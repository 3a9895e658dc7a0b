use Rattle.std.proofs.Common.{◌≡◌, false}
use Rattle.terms.specs.Sets.{has}
use Rattle.releases.specs.Releases.{versions_of}
use Rattle.releases.proofs.Standing.{each-ordinal, walked, walked-none, walked-some}
use Rattle.releases.proofs.releases.Releases.highest.Goals as goal

pub returns-clause-some : goal.returns-clause-some
returns-clause-some c =
    rw (← c.self.view_is, c.highest.ensures, c.deref.ensures.value) (walked-some (λ k. has c.args.set.now k) (versions_of c.self.inside.releases.items) c.self.inside.rising.items
    c.self.invariant.in_order c.precedence_is_a_total_preorder.ensures _ (walked (λ k. has c.args.set.now k) c.self.inside.rising.items))

pub returns-clause-none : goal.returns-clause-none
returns-clause-none c =
    rw (← c.self.view_is, c.highest.ensures, c.deref.ensures.value) (each-ordinal c.self.inside.releases.items (λ k. has c.args.set.now k ≡ false) _
    (walked-none (λ k. has c.args.set.now k) (versions_of c.self.inside.releases.items) c.self.inside.rising.items
    c.self.invariant.in_order _ (walked (λ k. has c.args.set.now k) c.self.inside.rising.items)))
