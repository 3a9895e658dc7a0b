use Rattle.std.proofs.Common.{◌≡◌, drop}
use Rattle.session.proofs.BatchLemmas.{HasTold}
use Rattle.session.proofs.putting.try_put.Given as goal

abbrev pub invariant-loop-at : goal.invariant-loop-at
invariant-loop-at g l = record {
  counted : l.count ≡ l.at;
  told : HasTold (g.W.Write.contents l.initial.writer) (g.W.Write.contents l.writer) l.initial.outbox l.outbox l.asked (drop l.at l.asked) l.served l.initial.offered.items l.offered.items;
}
