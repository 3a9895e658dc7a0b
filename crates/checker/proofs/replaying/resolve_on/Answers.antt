use Rattle.std.proofs.Common.{ap, arith, length, subst, sym, true}
use Rattle.std.specs.Prelude.{◌≡◌}
use Rattle.std.proofs.lemmas.Option.{slice_get_within}
use Rattle.std.proofs.lemmas.Result.{IfOk-from_err}
use Rattle.terms.specs.Incompats.{has_term}
use Rattle.derivations.specs.CausedIncompatibilities.{FollowsFrom, StandsBy}
use Rattle.facts.specs.Lines.{AtLine}
use Rattle.facts.specs.Pushing.{same_lines}
use Rattle.checker.proofs.Growing.{line_extends}
use Rattle.checker.proofs.replaying.resolve_on.Goals as goal

pub returns-then-not-has_term_at : goal.returns-then-not-has_term_at
returns-then-not-has_term_at c = same_lines

pub returns-then-not-has_term_at-2 : goal.returns-then-not-has_term_at-2
returns-then-not-has_term_at-2 c = same_lines

pub returns-then-is_within : goal.returns-then-is_within
returns-then-is_within c = same_lines

pub returns-then-is_within-2 : goal.returns-then-is_within-2
returns-then-is_within-2 c = same_lines

pub line_from-requires-clause-first : goal.line_from-requires-clause-first
line_from-requires-clause-first c =
    let there = c.has_term_at.ensures c.if-not-has_term_at.false in
    omega (arith, slice_get_within _ c.args.at there.0 there.1, ap length c.deref.ensures.value, ap length c.deref-5.ensures.value)

pub line_from-requires-clause-second : goal.line_from-requires-clause-second
line_from-requires-clause-second c =
    rw c.deref-5.ensures.value (subst (λ xs. AtLine xs c.args.with (λ line. has_term line.conclusion c.args.on ≡ true)) c.deref-2.ensures.value (c.has_term_at-2.ensures c.if-not-has_term_at-2.false))

pub returns : goal.returns
returns c =
    let known = c.args.known.now.items in
    let line = c.in_ok-line.line in
    let follows = subst (λ xs. FollowsFrom xs line.conclusion c.args.at c.args.with c.args.on) c.deref-5.ensures.value c.in_ok-line.ensures.follows in
    rw c.in_ok-push.ensures.items
    (line_extends c.lines_grow.ensures c.args.task.now known line
    (subst (λ r. StandsBy c.args.task.now.registry.now.packages c.args.task.now.request.now known line.conclusion r) (sym c.in_ok-line.ensures.reason) follows))

-- where memory is refused

pub returns-in_err-line : goal.returns-in_err-line
returns-in_err-line c = IfOk-from_err c.from_residual.result _ c.from_residual.ensures.0

pub returns-in_err-push : goal.returns-in_err-push
returns-in_err-push c = IfOk-from_err c.from_residual-in_err-push.result _ c.from_residual-in_err-push.ensures.0
