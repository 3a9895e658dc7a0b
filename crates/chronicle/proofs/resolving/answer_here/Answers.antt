use Rattle.std.proofs.Common.{List, sym, subst}
use Rattle.std.specs.Prelude.{All}
use Rattle.registry.specs.Registry.{Packages}
use Rattle.derivations.specs.Learning.{AllStand}
use Rattle.derivations.specs.Lines.{Line}
use Rattle.solver.specs.Outcomes.{IsLawful}
use Rattle.chronicle.specs.Journals.{packages_of}
use Rattle.chronicle.proofs.resolving.answer_here.Goals as goal

-- what is stored stands in the seat's registry
pub solve_with-requires : goal.solve_with-requires
solve_with-requires c = record {
  stored =
      subst (λ (p : Packages). All (AllStand p) c.store.result.now.members) (sym c.registry-registry.ensures.packages)
      (subst (λ (ms : List (List Line)). All (AllStand (packages_of c.args.seat.now.journal)) ms) (sym c.store.ensures.members) c.store.ensures.stand);
}

pub returns-clause-answer : goal.returns-clause-answer
returns-clause-answer c =
    let lawful = subst (λ (p : Packages). IsLawful p c.args.request.now c.args.options.explain c.in_ok-outcome.outcome) c.registry-registry.ensures.packages c.in_ok-outcome.ensures in
    c.an_outcome_is_the_answer.ensures _ _ _ _ lawful
