use Rattle.std.proofs.Common.{◌≡◌, ◌++◌, List, Ok, drop}
use Rattle.session.specs.Batches.{Question}
use Rattle.session.specs.Committing.{TellsOn, outlet}
use Rattle.session.proofs.telling.tell_each.Given as goal

abbrev pub invariant-loop-place : goal.invariant-loop-place
invariant-loop-place g l = record {
  count : l.answers ≡ l.place;
  told : (behind : List Question) → TellsOn {E = Unit} (Ok tt) (outlet g.K.Keeper.has_file (g.K.Keeper.done l.initial.keeper) (g.W.Write.contents l.initial.writer) l.initial.outgoing.committed)
      (outlet g.K.Keeper.has_file (g.K.Keeper.done l.keeper) (g.W.Write.contents l.writer) l.outgoing.committed) l.state l.initial.outgoing.outbox l.outgoing.outbox
      (l.asked ++ behind) (drop l.place l.asked ++ behind) l.initial.offered.items l.offered.items;
}
