use Rattle.std.proofs.Common.{◌≡◌, ◌∙◌, sym, ap, refl, subst, arith, length, get_or}
use Rattle.std.proofs.lemmas.Bool.{eqb-true}
use Rattle.std.proofs.lemmas.List.{nil_from_length}
use Rattle.std.proofs.lemmas.Result.{IfOk-from_err}
use Rattle.derivations.specs.CausedIncompatibilities.{FollowsFrom}
use Rattle.search.proofs.Turn.{at_within, satisfied_early, satisfied, refused_empty, back, no_decision, cause_second, next_search, refused_root, turn}
use Rattle.search.proofs.conflict.resolve_conflict.Goals as goal

pub returns-then-is_empty-clause-resolved : goal.returns-then-is_empty-clause-resolved
returns-then-is_empty-clause-resolved c =
    refused_empty c.args.task.now.registry.now.packages c.args.task.now.request.now c.args.partial.now c.resolution.known.items c.resolution.at c.resolution.bound c.resolution.invariant c.index.result.now c.index.ensures c.empty_is_no_fact.ensures
    (sym c.terms.ensures.same ∙ nil_from_length c.terms.result.now (eqb-true (length c.terms.result.now) 0 (sym c.is_empty.ensures ∙ c.if-is_empty.true)))

pub satisfier-requires-clause-satisfied : goal.satisfier-requires-clause-satisfied
satisfier-requires-clause-satisfied c = satisfied c.args.task.now.registry.now.packages c.args.task.now.request.now c.args.partial.now c.resolution.known.items c.resolution.at c.resolution.bound c.resolution.invariant c.index.result.now c.index.ensures

pub line_from-requires-clause-first : goal.line_from-requires-clause-first
line_from-requires-clause-first c =
    let lt = at_within c.args.task.now.registry.now.packages c.args.task.now.request.now c.args.partial.now c.resolution.known.items c.resolution.at c.resolution.bound c.resolution.invariant in
    omega (arith, lt, ap length c.deref.ensures.value)

pub returns-then-index-lt2-clause-search : goal.returns-then-index-lt2-clause-search
returns-then-index-lt2-clause-search c =
    rw c.in_ok-push.ensures.items (next_search c.args.task.now.registry.now.packages c.args.task.now.request.now c.args.partial.now c.resolution.known.items c.resolution.at c.resolution.bound c.resolution.invariant c.index.result.now c.index.ensures c.in_ok-index.index c.in_ok-index.level c.in_ok-index.ensures.satisfier
    c.in_ok-line.line 0 0 c.in_ok-line.ensures.reason (subst (λ xs. FollowsFrom xs c.in_ok-line.line.conclusion c.resolution.at 0 0) c.deref.ensures.value c.in_ok-line.ensures.follows) c.in_ok-line.ensures.lawful)

pub returns-then-index-lt2-clause-resolved : goal.returns-then-index-lt2-clause-resolved
returns-then-index-lt2-clause-resolved c =
    rw (c.in_ok-push.ensures.items, c.as_slice-at.ensures.value) (refused_root c.args.task.now.registry.now.packages c.args.task.now.request.now c.args.partial.now c.resolution.known.items c.resolution.at c.resolution.bound c.resolution.invariant c.index.result.now c.index.ensures c.in_ok-index.index c.in_ok-index.level c.in_ok-index.ensures.satisfier
    c.in_ok-line.line 0 0 c.in_ok-line.ensures.reason (subst (λ xs. FollowsFrom xs c.in_ok-line.line.conclusion c.resolution.at 0 0) c.deref.ensures.value c.in_ok-line.ensures.follows) c.in_ok-line.ensures.lawful c.if-index-lt2.true refl refl)

pub returns-then-level-satisfier-clause-resolved : goal.returns-then-level-satisfier-clause-resolved
returns-then-level-satisfier-clause-resolved c =
    back c.args.task.now.registry.now.packages c.args.task.now.request.now c.args.partial.now c.resolution.known.items c.resolution.at c.resolution.bound c.resolution.invariant c.index.result.now c.index.ensures c.in_ok-index.index c.in_ok-index.level c.in_ok-index.ensures.satisfier
    c.index-made-index.result (subst (λ xs. c.index-made-index.result ≡ get_or xs c.in_ok-index.index c.index-made-index.result) c.assignments-made.ensures.same c.index-made-index.is) c.in_ok-index.ensures.back c.if-level-satisfier.true

pub unreachable-requires : goal.unreachable-requires
unreachable-requires c =
    let lt = no_decision c.args.task.now.registry.now.packages c.args.task.now.request.now c.args.partial.now c.resolution.known.items c.resolution.at c.resolution.bound c.resolution.invariant c.index.result.now c.index.ensures c.in_ok-index.index c.in_ok-index.level c.in_ok-index.ensures.satisfier
    c.index-made-index.result c.in-Decided.field-0 (subst (λ xs. c.index-made-index.result ≡ get_or xs c.in_ok-index.index c.index-made-index.result) c.assignments-made.ensures.same c.index-made-index.is)
    c.assignments-made.ensures.lawful c.if-index-lt2.false c.in-Decided.is in
    absurd (omega (arith, lt, c.if-level-satisfier.false))

pub line_from-requires-in-Derived-clause-first : goal.line_from-requires-in-Derived-clause-first
line_from-requires-in-Derived-clause-first c =
    let lt = at_within c.args.task.now.registry.now.packages c.args.task.now.request.now c.args.partial.now c.resolution.known.items c.resolution.at c.resolution.bound c.resolution.invariant in
    omega (arith, lt, ap length c.deref-in-Derived.ensures.value)

pub line_from-requires-in-Derived-clause-second : goal.line_from-requires-in-Derived-clause-second
line_from-requires-in-Derived-clause-second c =
    rw c.deref-in-Derived.ensures.value (cause_second c.args.task.now.registry.now.packages c.args.task.now.request.now c.args.partial.now c.resolution.known.items c.resolution.at c.resolution.bound c.resolution.invariant c.index.result.now c.index.ensures c.in_ok-index.index c.in_ok-index.level c.in_ok-index.ensures.satisfier
    c.index-made-index.result c.in-Derived.cause (subst (λ xs. c.index-made-index.result ≡ get_or xs c.in_ok-index.index c.index-made-index.result) c.assignments-made.ensures.same c.index-made-index.is) c.in-Derived.is)

pub resolution-smaller : goal.resolution-smaller
resolution-smaller c = c.in_ok-index.ensures.early c.resolution.bound (satisfied_early c.args.task.now.registry.now.packages c.args.task.now.request.now c.args.partial.now c.resolution.known.items c.resolution.at c.resolution.bound c.resolution.invariant c.index.result.now c.index.ensures)

pub resolution-preserved : goal.resolution-preserved
resolution-preserved c =
    rw (c.in_ok-push-in-Derived.ensures.items, c.as_slice-at-in-Derived.ensures.value) (turn c.args.task.now.registry.now.packages c.args.task.now.request.now c.args.partial.now c.resolution.known.items c.resolution.at c.resolution.bound c.resolution.invariant c.index.result.now c.index.ensures c.in_ok-index.index c.in_ok-index.level c.in_ok-index.ensures.satisfier
    c.in_ok-line-in-Derived.line c.in-Derived.cause c.index-made-index.result.pkg c.in_ok-line-in-Derived.ensures.reason (subst (λ xs. FollowsFrom xs c.in_ok-line-in-Derived.line.conclusion c.resolution.at c.in-Derived.cause c.index-made-index.result.pkg) c.deref-in-Derived.ensures.value c.in_ok-line-in-Derived.ensures.follows) c.in_ok-line-in-Derived.ensures.lawful
    c.index-made-index.result (subst (λ xs. c.index-made-index.result ≡ get_or xs c.in_ok-index.index c.index-made-index.result) c.assignments-made.ensures.same c.index-made-index.is) c.in-Derived.is refl)

pub index-requires : goal.index-requires
index-requires c =
    let within = at_within c.args.task.now.registry.now.packages c.args.task.now.request.now c.args.partial.now c.resolution.known.items c.resolution.at c.resolution.bound c.resolution.invariant in
    omega (arith, within, c.resolution.known.ok.0)

pub returns-then-is_empty-clause-search : goal.returns-then-is_empty-clause-search
returns-then-is_empty-clause-search c = c.resolution.invariant.search

pub returns-then-level-satisfier-clause-search : goal.returns-then-level-satisfier-clause-search
returns-then-level-satisfier-clause-search c = c.resolution.invariant.search

-- the root's fact has the root's term
pub line_from-requires-clause-second : goal.line_from-requires-clause-second
line_from-requires-clause-second c =
    let root = c.resolution.invariant.search.lines.root in
    rw c.deref.ensures.value (root.0, root.1, rw root.2 refl)

pub returns-in_err-index-clause-search : goal.returns-in_err-index-clause-search
returns-in_err-index-clause-search c = IfOk-from_err _ _ c.from_residual.ensures.0

pub returns-in_err-index-clause-resolved : goal.returns-in_err-index-clause-resolved
returns-in_err-index-clause-resolved c = IfOk-from_err _ _ c.from_residual.ensures.0

pub returns-in_err-line-clause-search : goal.returns-in_err-line-clause-search
returns-in_err-line-clause-search c = IfOk-from_err _ _ c.from_residual-in_err-line.ensures.0

pub returns-in_err-line-clause-resolved : goal.returns-in_err-line-clause-resolved
returns-in_err-line-clause-resolved c = IfOk-from_err _ _ c.from_residual-in_err-line.ensures.0

pub returns-in_err-push-clause-search : goal.returns-in_err-push-clause-search
returns-in_err-push-clause-search c = IfOk-from_err _ _ c.from_residual-in_err-push.ensures.0

pub returns-in_err-push-clause-resolved : goal.returns-in_err-push-clause-resolved
returns-in_err-push-clause-resolved c = IfOk-from_err _ _ c.from_residual-in_err-push.ensures.0

pub returns-in_err-line-in-Derived-clause-search : goal.returns-in_err-line-in-Derived-clause-search
returns-in_err-line-in-Derived-clause-search c = IfOk-from_err _ _ c.from_residual-in_err-line-in-Derived.ensures.0

pub returns-in_err-line-in-Derived-clause-resolved : goal.returns-in_err-line-in-Derived-clause-resolved
returns-in_err-line-in-Derived-clause-resolved c = IfOk-from_err _ _ c.from_residual-in_err-line-in-Derived.ensures.0

pub returns-in_err-push-in-Derived-clause-search : goal.returns-in_err-push-in-Derived-clause-search
returns-in_err-push-in-Derived-clause-search c = IfOk-from_err _ _ c.from_residual-in_err-push-in-Derived.ensures.0

pub returns-in_err-push-in-Derived-clause-resolved : goal.returns-in_err-push-in-Derived-clause-resolved
returns-in_err-push-in-Derived-clause-resolved c = IfOk-from_err _ _ c.from_residual-in_err-push-in-Derived.ensures.0
