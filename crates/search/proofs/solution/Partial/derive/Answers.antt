use Rattle.std.proofs.Common.{arith, refl, sym, subst, true≢false}
use Rattle.search.specs.Assignments.{IsPartial}
use Rattle.search.proofs.Decided.{said-derived, IsPartial-push}
use Rattle.search.proofs.Places.{last-within, said-up_to}
use Rattle.search.proofs.Falling.{rank-falls, rank-falls_from}
use Rattle.search.proofs.solution.Partial.derive.Goals as goal

pub add-requires-clause-said : goal.add-requires-clause-said
add-requires-clause-said c =
    said-derived c.self.inside.trail.made.items _ c.said_at.result.now c.in-Ok.said
    (said-up_to c.self.inside.trail.made.items c.args.pkg c.last_on-last.result c.said_at.result.now c.last_on-last.ensures c.said_at.ensures) c.in-Ok.ensures.exact

pub said_at-requires-clause-within : goal.said_at-requires-clause-within
said_at-requires-clause-within c = rw c.last_on-last.ensures (last-within c.self.inside.trail.made.items c.args.pkg)

pub invariant_of-self-2 : goal.invariant_of-self-2
invariant_of-self-2 c =
    let whole : IsPartial c.args.self.now = subst IsPartial c.self.view_is c.self.invariant.0 in (
      rw (c.in_ok-add.ensures.ok, c.self.view_is) (IsPartial-push c.args.self.now _ whole (omega (arith, c.level-level.ensures)) (omega arith) tt (λ e. absurd (true≢false (sym e))) c.requires),
      c.add.ensures.kept,
    )

pub returns-clause-falls : goal.returns-clause-falls
returns-clause-falls c = λ away.
    let whole : IsPartial c.args.self.now = subst IsPartial c.self.view_is c.self.invariant.0 in
    rw (c.in_ok-add.ensures.ok, c.self.view_is) (rank-falls c.args.self.now _ whole c.level-level.ensures refl (omega arith) away)

pub returns-clause-falls_back : goal.returns-clause-falls_back
returns-clause-falls_back c = λ away before level whole opened is.
    rw (c.in_ok-add.ensures.ok, c.self.view_is) (rank-falls_from c.args.self.now before level _ whole opened is c.level-level.ensures refl (omega arith) away)

pub returns-clause-ok : goal.returns-clause-ok
returns-clause-ok c = rw (c.in_ok-add.ensures.ok, c.self.view_is, c.level-level.ensures) refl

pub add-requires-clause-kept : goal.add-requires-clause-kept
add-requires-clause-kept c = c.self.invariant.1

pub add-requires-clause-last : goal.add-requires-clause-last
add-requires-clause-last c = c.last_on-last.ensures

pub add-requires-clause-once : goal.add-requires-clause-once
add-requires-clause-once c = λ e. absurd (true≢false (sym e))

pub invariant_of-self : goal.invariant_of-self
invariant_of-self c = (rw c.in_err-add.ensures.err c.self.invariant.0, c.add.ensures.kept)
