use Rattle.std.proofs.Common.{◌∙◌, ap, sym, subst}
use Rattle.search.specs.Assignments.{says, IsPartial}
use Rattle.search.proofs.Places.{last-within, said-up_to, says-nothing}
use Rattle.search.proofs.solution.Partial.said.Goals as goal

pub said_at-requires-clause-within : goal.said_at-requires-clause-within
said_at-requires-clause-within c = rw c.last_on-last.ensures (last-within c.self.inside.trail.made.items c.args.pkg)

pub returns-in-None-clause-none : goal.returns-in-None-clause-none
returns-in-None-clause-none c = λ choice.
    ap (λ xs. says xs c.args.pkg choice) (sym c.self.view_is) ∙ says-nothing c.self.inside.trail.made.items c.args.pkg choice (sym c.last_on-last.ensures ∙ c.in-None.is)

pub returns-in-Some-clause-some : goal.returns-in-Some-clause-some
returns-in-Some-clause-some c = λ choice.
    said-up_to c.self.inside.trail.made.items c.args.pkg c.last_on-last.result c.said_at.result.now c.last_on-last.ensures c.said_at.ensures choice ∙ ap (λ xs. says xs c.args.pkg choice) c.self.view_is

pub returns-in-None-clause-lawful : goal.returns-in-None-clause-lawful
returns-in-None-clause-lawful c = subst IsPartial c.self.view_is c.self.invariant.0

pub returns-in-Some-clause-lawful : goal.returns-in-Some-clause-lawful
returns-in-Some-clause-lawful c = subst IsPartial c.self.view_is c.self.invariant.0
