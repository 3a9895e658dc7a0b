use Rattle.std.proofs.Common.{ap, arith, length}
use Rattle.solver.proofs.Newest.{locked_once}
use Rattle.solver.proofs.stages.find.Goals as goal

pub returns-in-Selection-clause-found : goal.returns-in-Selection-clause-found
returns-in-Selection-clause-found g c =
    let reached = rw c.in-Selection.is at c.in_ok-list.ensures.reaches in
    let preferred = rw c.in-Selection.is at c.in_ok-list.ensures.preferred in
    let packages = c.args.task.now.registry.now.packages in
    let wanted = c.args.task.now.request.now in (
      record {
        newest = c.the_preferred_is_the_newest.ensures.preferred packages wanted _ c.revision-revision.ensures.reachable (locked_once wanted c.needs-needs.ensures.lawful) preferred reached.meets;
        once = reached.once;
      },
      λ k d lt. absurd (omega (arith, ap length c.new.ensures.items, lt)),
    )
