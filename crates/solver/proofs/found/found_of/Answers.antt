use Rattle.std.proofs.Common.{List, subst, sym}
use Rattle.derivations.specs.CausedIncompatibilities.{AreLawful}
use Rattle.derivations.specs.declared.known.CausedIncompatibility.{CausedIncompatibility}
use Rattle.solver.proofs.found.found_of.Goals as goal

pub offered_of-offered-requires-clause-lawful : goal.offered_of-offered-requires-clause-lawful
offered_of-offered-requires-clause-lawful c =
    let packages = c.args.task.now.registry.now.packages in
    let wanted = c.args.task.now.request.now in
    let ends = rw c.in-Selected.is at c.requires in
    subst (λ (lines : List CausedIncompatibility). AreLawful packages wanted lines) (sym c.deref.ensures.value) ends.0.lawful

pub offered_of-offered-requires-in-Refused-clause-lawful : goal.offered_of-offered-requires-in-Refused-clause-lawful
offered_of-offered-requires-in-Refused-clause-lawful c =
    let packages = c.args.task.now.registry.now.packages in
    let wanted = c.args.task.now.request.now in
    let ends = rw c.in-Refused.is at c.requires in
    subst (λ (lines : List CausedIncompatibility). AreLawful packages wanted lines) (sym c.deref-in-Refused.ensures.value) ends.lawful

pub returns-in-Selected : goal.returns-in-Selected
returns-in-Selected c = ((rw c.in-Selected.is at c.requires).1, c.offered_of-offered.ensures)

pub returns-in-Refused : goal.returns-in-Refused
returns-in-Refused c = (rw c.in-Refused.is at c.requires, c.offered_of-offered-in-Refused.ensures)
