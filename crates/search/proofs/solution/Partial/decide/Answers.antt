use Rattle.std.proofs.Common.{◌≡◌, arith, refl, sym, subst, false}
use Rattle.std.specs.Prelude.{Some, true}
use Rattle.search.specs.Assignments.{says, IsPartial, is_decided}
use Rattle.search.proofs.Decided.{decisions-bound, said-decided, says_only, IsPartial-push}
use Rattle.search.proofs.Falling.{rank-falls_deeper}
use Rattle.search.proofs.solution.Partial.decide.Goals as goal

pub overflow_add-level : goal.overflow_add-level
overflow_add-level c =
    let whole : IsPartial c.args.self.now = subst IsPartial c.self.view_is c.self.invariant.0 in
    omega (arith, c.level-level.ensures, decisions-bound c.args.self.now whole)

pub add-requires-clause-said : goal.add-requires-clause-said
add-requires-clause-said c =
    said-decided c.self.inside.trail.made.items _ c.args.ordinal c.in-Ok.said c.in-Ok.ensures c.in_ok-term.ensures
    (subst (λ xs. says xs c.args.pkg (Some c.args.ordinal) ≡ true) (sym c.self.view_is) c.requires.within)

pub invariant_of-self-2 : goal.invariant_of-self-2
invariant_of-self-2 c =
    let whole : IsPartial c.args.self.now = subst IsPartial c.self.view_is c.self.invariant.0 in (
      rw (c.in_ok-add.ensures.ok, c.self.view_is) (IsPartial-push c.args.self.now _ whole (omega (arith, c.level-level.ensures)) (omega arith) c.in_ok-term.ensures (λ _. c.requires.undecided)
          (Some c.args.ordinal, c.requires.within, rw c.in_ok-term.ensures (says_only c.args.ordinal))),
      c.add.ensures.kept,
    )

pub returns-clause-falls : goal.returns-clause-falls
returns-clause-falls c =
    let whole : IsPartial c.args.self.now = subst IsPartial c.self.view_is c.self.invariant.0 in
    rw (c.in_ok-add.ensures.ok, c.self.view_is) (rank-falls_deeper c.args.self.now _ whole (omega arith) c.requires.undecided (omega (arith, c.level-level.ensures)) refl)

pub returns-clause-ok : goal.returns-clause-ok
returns-clause-ok c = rw (c.in_ok-add.ensures.ok, c.self.view_is, c.in_ok-term.ensures, c.level-level.ensures) refl

pub add-requires-clause-kept : goal.add-requires-clause-kept
add-requires-clause-kept c = c.self.invariant.1

pub add-requires-clause-last : goal.add-requires-clause-last
add-requires-clause-last c = c.last_on-last.ensures

pub add-requires-clause-once : goal.add-requires-clause-once
add-requires-clause-once c = λ _. subst (λ xs. is_decided xs c.args.pkg ≡ false) (sym c.self.view_is) c.requires.undecided

pub invariant_of-self : goal.invariant_of-self
invariant_of-self c = (rw c.in_err-add.ensures.err c.self.invariant.0, c.add.ensures.kept)
