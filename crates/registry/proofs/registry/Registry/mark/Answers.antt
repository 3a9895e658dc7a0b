use Rattle.std.proofs.Common.{sym, subst}
use Rattle.registry.specs.Lawful.{IsRegistry}
use Rattle.registry.proofs.Lawfulness.{lawful-mark}
use Rattle.registry.proofs.registry.Registry.mark.Goals as goal

pub invariant_of-self : goal.invariant_of-self
invariant_of-self c = (
  c.set_yanked_in.ensures.paired,
  subst IsRegistry (sym c.set_yanked_in.ensures.packages) (lawful-mark _ c.args.name.now c.args.version.now c.args.yanked c.self.invariant.1),
  rw c.take.ensures.after tt,
  c.set_yanked_in.ensures.extends.placed c.self.invariant.3,
)
