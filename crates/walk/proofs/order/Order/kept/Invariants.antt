use Rattle.std.proofs.Common.{take}
use Rattle.walk.specs.Listing.{AreChosen}
use Rattle.walk.proofs.order.Order.kept.Given as goal

abbrev pub invariant-loop-place : goal.invariant-loop-place
invariant-loop-place g l = AreChosen (g.C.Chooser.chooses l.chooser) (take l.place l.self.found.entries)
