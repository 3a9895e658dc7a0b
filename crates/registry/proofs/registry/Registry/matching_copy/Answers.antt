use Rattle.std.proofs.Common.{◌∙◌, ap}
use Rattle.terms.specs.Sets.{has}
use Rattle.registry.proofs.MatchingSets.{is_matching}
use Rattle.registry.proofs.registry.Registry.matching_copy.Goals as goal

pub returns-clause-set : goal.returns-clause-set
returns-clause-set c =
    is_matching c.same_set.ensures c.args.self.now.packages c.args.pkg c.args.need.now c.in_ok-set-2.field-0 c.in_ok-set-2.ensures.ascending
    (λ k. ap (λ set. has set k) c.in_ok-set-2.ensures.same ∙ c.in_ok-set.ensures k)
