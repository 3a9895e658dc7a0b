use Rattle.std.proofs.Common.{drop}
use Rattle.facts.specs.Pushing.{Extends}
use Rattle.checker.proofs.Reused.{AreLeft}
use Rattle.checker.proofs.members.push_learnt.Given as goal

-- what is left is derived from what stands at the places
abbrev pub invariant-loop-line : goal.invariant-loop-line
invariant-loop-line l = record {
  extends : Extends l.task l.fn.known.items l.known.items;
  left : AreLeft l.task.registry.now.packages l.known.items l.places.items l.at l.learnt (drop l.line-index l.learnt);
}
