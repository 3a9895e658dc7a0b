use Rattle.std.proofs.Common.{All, subst, sym}
use Rattle.derivations.specs.Learning.{AllStand}
use Rattle.registry.specs.Registry.{Packages}
use Rattle.session.proofs.putting.try_one.Goals as goal

pub try_answer-requires : goal.try_answer-requires
try_answer-requires c = subst (λ (packages : Packages). All (AllStand packages) c.store.result.now.members) (sym c.registry.ensures) c.store.ensures

pub returns : goal.returns
returns c = rw c.registry.ensures at c.try_answer.ensures
