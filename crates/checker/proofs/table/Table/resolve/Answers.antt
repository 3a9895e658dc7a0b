use Rattle.std.proofs.Common.{inr, subst}
use Rattle.std.specs.Prelude.{Option}
use Rattle.terms.specs.declared.term.Term.{Term}
use Rattle.checker.specs.Tables.{IsOred}
use Rattle.checker.proofs.Joining.{follows-joined}
use Rattle.checker.proofs.table.Table.resolve.Goals as goal

pub returns-in_ok-and_others : goal.returns-in_ok-and_others
returns-in_ok-and_others c =
    let old = c.args.self.now in
    let h = c.in_ok-or.ensures.joined c.if-branch.true in
    let either = subst (λ (term : Option Term). IsOred old c.or.new.self c.args.pivot term) c.term_on.ensures h.1 in
    inr (h.0, c.in_ok-or.ensures.said c.if-branch.true, follows-joined old c.or.new.self c.and_others.new.self c.args.cause.now c.args.pivot either c.in_ok-and_others.ensures)
