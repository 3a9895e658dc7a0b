use Rattle.std.proofs.Common.{◌≡◌, ◌∙◌, ℕ, ◌||◌, false, sym, subst, true}
use Rattle.std.specs.Option.{option_copied}
use Rattle.std.proofs.lemmas.Result.{IfOk-from_err}
use Rattle.terms.specs.Fronts.{true_where}
use Rattle.terms.specs.Incompats.{has_term}
use Rattle.terms.specs.Terms.{true_of}
use Rattle.terms.specs.declared.term.Term.{Term}
use Rattle.derivations.specs.Facts.{Terms}
use Rattle.checker.specs.Tables.{IsOred, is_always}
use Rattle.checker.proofs.Joining.{has_term-there, is_read, or-set, says-nothing-always, says-nothing-none, says-something}
use Rattle.checker.proofs.table.Table.or.Goals as goal

pub returns-clause-joined : goal.returns-clause-joined
returns-clause-joined c _ =
    let old = c.args.self.now in
    let joined = c.in_ok-joined.joined in
    let other = option_copied c.args.other in
    let read = is_read c.self.inside.places.items c.self.inside.terms.items c.deref.result.now c.args.self.now c.args.pkg c.in-Some.place c.index-2.result.now c.self.invariant c.self.view_is c.deref.ensures.value c.in-Some.ensures.there c.index-2.ensures in (
      has_term-there old c.in-Some.place c.args.pkg read.term read.at,
      subst (λ (new : Terms). IsOred old new c.args.pkg other) (sym c.replace.ensures)
          (or-set old c.in-Some.place c.args.pkg read.term joined other read.once read.at
          (λ choice. subst (λ (t : ℕ × Term). true_of joined choice ≡ (true_of t.1 choice || true_where other choice)) read.same (c.in_ok-joined.ensures choice))),
    )

pub returns-clause-said : goal.returns-clause-said
returns-clause-said c _ =
    let old = c.args.self.now in
    let read = is_read c.self.inside.places.items c.self.inside.terms.items c.deref.result.now c.args.self.now c.args.pkg c.in-Some.place c.index.result.now c.self.invariant c.self.view_is c.deref.ensures.value c.in-Some.ensures.there c.index.ensures in
    says-something old c.args.pkg c.in-Some.place read.term read.once read.at (subst (λ (t : ℕ × Term). is_always t.1 ≡ false) read.same (sym c.is_always.ensures.exact ∙ c.if-is_always.false))

pub returns-in_default-clause-unsaid : goal.returns-in_default-clause-unsaid
returns-in_default-clause-unsaid c _ =
    says-nothing-none c.args.self.now c.args.pkg (subst (λ (terms : Terms). has_term terms c.args.pkg ≡ false) (c.deref.ensures.value ∙ c.self.view_is) c.in_default.ensures.none)

pub returns-then-is_always-clause-unsaid : goal.returns-then-is_always-clause-unsaid
returns-then-is_always-clause-unsaid c _ =
    let old = c.args.self.now in
    let read = is_read c.self.inside.places.items c.self.inside.terms.items c.deref.result.now c.args.self.now c.args.pkg c.in-Some.place c.index.result.now c.self.invariant c.self.view_is c.deref.ensures.value c.in-Some.ensures.there c.index.ensures in
    says-nothing-always old c.args.pkg c.in-Some.place read.term read.once read.at (subst (λ (t : ℕ × Term). is_always t.1 ≡ true) read.same (sym c.is_always.ensures.exact ∙ c.if-is_always.true))

pub returns-in_err-joined-clause-joined : goal.returns-in_err-joined-clause-joined
returns-in_err-joined-clause-joined c = IfOk-from_err _ _ c.from_residual.ensures.0

pub returns-in_err-joined-clause-said : goal.returns-in_err-joined-clause-said
returns-in_err-joined-clause-said c = IfOk-from_err _ _ c.from_residual.ensures.0

pub returns-in_err-joined-clause-unchanged : goal.returns-in_err-joined-clause-unchanged
returns-in_err-joined-clause-unchanged c = IfOk-from_err _ _ c.from_residual.ensures.0

pub returns-in_err-joined-clause-unsaid : goal.returns-in_err-joined-clause-unsaid
returns-in_err-joined-clause-unsaid c = IfOk-from_err _ _ c.from_residual.ensures.0
