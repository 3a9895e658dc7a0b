use Rattle.std.proofs.Common.{◌∙◌, List, [], ap, arith, rules, subst, sym}
use Rattle.std.proofs.lemmas.Bool.{iff_false}
use Rattle.terms.specs.Sets.{has}
use Rattle.derivations.specs.Derivations.{AreDerivedBy}
use Rattle.derivations.specs.Learning.{Offers, targets_of}
use Rattle.derivations.specs.Lines.{Line}
use Rattle.derivations.proofs.learnt.Learnt.new.Goals as goal

pub invariant_of-result : goal.invariant_of-result
invariant_of-result c = (
  record {
    some = search rules;
    few = omega (arith, c.if-len-gt-DERIVATION_LINE_LIMIT.false, c.len.ensures, c.args.lines.ok.0);
    derived = subst (λ (lines : List Line). AreDerivedBy Offers [] lines) c.deref.ensures.value (c.in_ok-are_offered.ensures.0 c.if-not-branch.false);
  },
  λ k. c.in_ok-targets.ensures k ∙ ap (λ (lines : List Line). has (targets_of lines) k) c.deref-2.ensures.value,
)

pub returns-then-not-branch-clause-underived : goal.returns-then-not-branch-clause-underived
returns-then-not-branch-clause-underived c = λ e learnt.
    iff_false c.in_ok-are_offered.ensures c.if-not-branch.true (subst (λ (lines : List Line). AreDerivedBy Offers [] lines) (sym c.deref.ensures.value) learnt.derived)
