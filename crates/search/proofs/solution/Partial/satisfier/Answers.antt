use Rattle.std.proofs.Common.{◌<◌, ℕ, subst, take}
use Rattle.std.proofs.lemmas.Result.{IfOk-weaker}
use Rattle.search.specs.Assignments.{IsPartial}
use Rattle.search.specs.Satisfying.{CanGoBack, IsSatisfier, Satisfied}
use Rattle.search.proofs.Unassigning.{can_go_back, satisfier-before}
use Rattle.search.proofs.solution.Partial.satisfier.Goals as goal

pub returns-clause-early : goal.returns-clause-early
returns-clause-early c =
    let made = c.args.self.now in
    let terms = c.args.incompat.now in
    IfOk-weaker c.satisfier_of.result (λ (found : ℕ × ℕ). IsSatisfier made terms found.0 found.1) (λ (found : ℕ × ℕ). (bound : ℕ) → Satisfied (take bound made) terms → found.0 < bound)
    (λ found is bound sat. satisfier-before made terms bound found.0 found.1 sat is) (rw (c.self.view_is, c.terms.ensures.same) at c.satisfier_of.ensures)

pub returns-clause-back : goal.returns-clause-back
returns-clause-back c =
    let made = c.args.self.now in
    let terms = c.args.incompat.now in
    let whole : IsPartial made = subst IsPartial c.self.view_is c.self.invariant.0 in
    IfOk-weaker c.satisfier_of.result (λ (found : ℕ × ℕ). IsSatisfier made terms found.0 found.1) (λ (found : ℕ × ℕ). CanGoBack made terms found.0 found.1)
    (λ found is. can_go_back made terms found.0 found.1 whole is) (rw (c.self.view_is, c.terms.ensures.same) at c.satisfier_of.ensures)
