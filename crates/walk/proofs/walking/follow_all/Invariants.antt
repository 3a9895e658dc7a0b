use Rattle.std.proofs.Common.{◌<◌, ℕ}
use Rattle.walk.specs.Choosing.{choice_of, Follows}
use Rattle.walk.specs.Walks.{asked_by, ComeFrom, Grows, IsMetAt}
use Rattle.walk.proofs.walking.follow_all.Given as goal

abbrev pub invariant-loop-index : goal.invariant-loop-index
invariant-loop-index g l = record {
  follows : Follows (g.C.Chooser.chooses l.chooser) (choice_of l.found.entries);
  grown : Grows l.fn.found.entries l.found.entries;
  come : ComeFrom l.registry.packages (asked_by l.registry.packages l.request l.asker) (choice_of l.fn.found.entries) (choice_of l.found.entries);
  met : (j : ℕ) → j < l.index → IsMetAt l.registry.packages (choice_of l.found.entries) (asked_by l.registry.packages l.request l.asker) j;
}
