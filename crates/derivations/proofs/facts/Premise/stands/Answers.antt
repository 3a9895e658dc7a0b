use Rattle.derivations.proofs.Soundness.{Holds-Stands}
use Rattle.derivations.proofs.Sound.{on_true}
use Rattle.derivations.proofs.facts.Premise.stands.Goals as goal

pub returns-then-is_dependent-clause-sound : goal.returns-then-is_dependent-clause-sound
returns-then-is_dependent-clause-sound c =
    on_true c.covers.result (λ t. Holds-Stands c.args.registry.now.packages c.args.self.now
    (record { depends = c.is_dependent.ensures.0 c.if-is_dependent.true; covers = c.covers.ensures.0 t }))
