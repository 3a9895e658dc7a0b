use Rattle.std.proofs.Common.{◌≡◌, ◌∙◌, ℕ, ◌∷◌, ◌++◌, [], ◌&&◌, false, true, sym, subst}
use Rattle.std.proofs.lemmas.Result.{on_ok_weaker}
use Rattle.terms.specs.Incompats.{has_term}
use Rattle.terms.specs.Terms.{true_of}
use Rattle.terms.specs.declared.term.Term.{Term}
use Rattle.derivations.specs.Facts.{Terms}
use Rattle.checker.specs.Tables.{IsAnded}
use Rattle.checker.proofs.Joining.{and-implied, and-push, and-set, is_read}
use Rattle.checker.proofs.table.Table.and.Goals as goal

pub returns-in_ok-of-in-None : goal.returns-in_ok-of-in-None
returns-in_ok-of-in-None c =
    let old = c.args.self.now in
    let none = subst (λ (terms : Terms). has_term terms c.args.pkg ≡ false) (c.deref.ensures.value ∙ c.self.view_is) c.in-None.ensures.none in
    on_ok_weaker c.push.result (λ e. subst (λ (new : Terms). IsAnded old new c.args.pkg c.args.term.now) (sym e)
    (subst (λ (term : Term). IsAnded old (old ++ (c.args.pkg, term) ∷ []) c.args.pkg c.args.term.now) (sym c.in_ok-of-in-None.ensures) (and-push old c.args.pkg c.args.term.now none))) c.push.ensures

pub returns-in_ok-joined-in-Some : goal.returns-in_ok-joined-in-Some
returns-in_ok-joined-in-Some c =
    let old = c.args.self.now in
    let joined = c.in_ok-joined-in-Some.joined in
    let read = is_read c.self.inside.places.items c.self.inside.terms.items c.deref.result.now c.args.self.now c.args.pkg c.in-Some.place c.index.result.now c.self.invariant c.self.view_is c.deref.ensures.value c.in-Some.ensures.there c.index.ensures in
    subst (λ (new : Terms). IsAnded old new c.args.pkg c.args.term.now) (sym c.replace.ensures)
    (and-set old c.in-Some.place c.args.pkg read.term joined c.args.term.now read.once read.at
    (λ choice. subst (λ (t : ℕ × Term). true_of joined choice ≡ (true_of t.1 choice && true_of c.args.term.now choice)) read.same (c.in_ok-joined-in-Some.ensures choice)))

pub returns-then-implies : goal.returns-then-implies
returns-then-implies c =
    let old = c.args.self.now in
    let read = is_read c.self.inside.places.items c.self.inside.terms.items c.deref.result.now c.args.self.now c.args.pkg c.in-Some.place c.index.result.now c.self.invariant c.self.view_is c.deref.ensures.value c.in-Some.ensures.there c.index.ensures in
    and-implied old c.in-Some.place c.args.pkg read.term c.args.term.now read.once read.at
    (λ choice. subst (λ (t : ℕ × Term). true_of t.1 choice ≡ true → true_of c.args.term.now choice ≡ true) read.same (c.implies.ensures c.if-implies.true choice))
