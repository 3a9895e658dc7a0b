use Rattle.std.proofs.Common.{◌∙◌, ap, sym, subst}
use Rattle.search.specs.Assignments.{decided, says, IsPartial}
use Rattle.search.proofs.Decided.{decided_if}
use Rattle.search.proofs.Places.{decided-up_to, decides-nothing, last-within, said-up_to, says-nothing}
use Rattle.search.proofs.solution.Partial.settled.Goals as goal

pub said_at-said-requires-clause-within : goal.said_at-said-requires-clause-within
said_at-said-requires-clause-within c = rw c.last_on-last.ensures (last-within c.self.inside.trail.made.items c.args.pkg)

pub decided_at-decision-requires-clause-within : goal.decided_at-decision-requires-clause-within
decided_at-decision-requires-clause-within c = rw c.last_on-last.ensures (last-within c.self.inside.trail.made.items c.args.pkg)

pub returns-in-None-clause-none : goal.returns-in-None-clause-none
returns-in-None-clause-none c = λ choice.
    ap (λ xs. says xs c.args.pkg choice) (sym c.self.view_is) ∙ says-nothing c.self.inside.trail.made.items c.args.pkg choice (sym c.last_on-last.ensures ∙ c.in-None.is)

pub returns-in-None-clause-undecided : goal.returns-in-None-clause-undecided
returns-in-None-clause-undecided c =
    ap (λ xs. decided xs c.args.pkg) (sym c.self.view_is) ∙ decides-nothing c.self.inside.trail.made.items c.args.pkg (sym c.last_on-last.ensures ∙ c.in-None.is)

pub returns-in-Some-clause-said : goal.returns-in-Some-clause-said
returns-in-Some-clause-said c = λ choice.
    said-up_to c.self.inside.trail.made.items c.args.pkg c.last_on-last.result c.said_at-said.result.now c.last_on-last.ensures c.said_at-said.ensures choice
    ∙ ap (λ xs. says xs c.args.pkg choice) c.self.view_is

pub returns-in-Some-clause-decision : goal.returns-in-Some-clause-decision
returns-in-Some-clause-decision c =
    decided-up_to c.self.inside.trail.made.items c.args.pkg c.last_on-last.result c.decided_at-decision.result c.last_on-last.ensures c.decided_at-decision.ensures
    ∙ ap (λ xs. decided xs c.args.pkg) c.self.view_is

pub returns-in-Some-clause-only : goal.returns-in-Some-clause-only
returns-in-Some-clause-only c =
    let whole : IsPartial c.args.self.now = subst IsPartial c.self.view_is c.self.invariant.0 in
    decided_if c.args.self.now c.args.pkg c.decided_at-decision.result whole.assignments
    (decided-up_to c.self.inside.trail.made.items c.args.pkg c.last_on-last.result c.decided_at-decision.result c.last_on-last.ensures c.decided_at-decision.ensures
    ∙ ap (λ xs. decided xs c.args.pkg) c.self.view_is)

pub returns-in-None-clause-lawful : goal.returns-in-None-clause-lawful
returns-in-None-clause-lawful c = subst IsPartial c.self.view_is c.self.invariant.0

pub returns-in-Some-clause-lawful : goal.returns-in-Some-clause-lawful
returns-in-Some-clause-lawful c = subst IsPartial c.self.view_is c.self.invariant.0
