use Rattle.facts.specs.Lines.{AreLines}
use Rattle.checker.specs.Showing.{AreConcluded}
use Rattle.checker.proofs.showing.show_records.Given as goal

abbrev pub invariant-loop-record : goal.invariant-loop-record
invariant-loop-record l = record {
  lines : AreLines l.task.registry.now.packages l.task.request.now l.known.items;
  shown : AreConcluded l.task l.showing;
}
