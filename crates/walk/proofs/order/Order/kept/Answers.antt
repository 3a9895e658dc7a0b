use Rattle.std.proofs.Common.{rules}
use Rattle.walk.proofs.Orders.{chosen_more}
use Rattle.walk.proofs.order.Order.kept.Goals as goal

pub loop-place-preserved : goal.loop-place-preserved
loop-place-preserved g c =
    chosen_more (g.C.Chooser.chooses c.args.chooser.now) c.args.self.now.found.entries c.loop-place.place c.entry_at-pkg.result c.loop-place.invariant c.entry_at-pkg.ensures.at (search rules)
