use Rattle.std.proofs.Common.{◌≡◌}
use Rattle.terms.specs.Sets.{has}
use Rattle.registry.proofs.PublicationLemmas.{if-highest, if-none}
use Rattle.registry.proofs.publications.Publications.highest.Goals as goal

pub returns-clause-some : goal.returns-clause-some
returns-clause-some c =
    rw (← c.self.view_is) (if-highest (λ k b. has c.args.set.now k ≡ b) c.self.inside.releases.releases c.self.inside.needs.items c.self.invariant.0 c.highest.result c.highest.ensures.some)

pub returns-clause-none : goal.returns-clause-none
returns-clause-none c =
    rw (← c.self.view_is) (if-none (λ k b. has c.args.set.now k ≡ b) c.self.inside.releases.releases c.self.inside.needs.items c.self.invariant.0 c.highest.result c.highest.ensures.none)
