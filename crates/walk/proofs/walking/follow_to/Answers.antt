use Rattle.std.proofs.Common.{◌≡◌, ◌∙◌, ◌++◌, [], ◌∷◌, ℕ, List, inl, inr, rules, subst, sym, ap, false}
use Rattle.std.specs.Prelude.{None, Some}
use Rattle.walk.specs.Choosing.{choice_of, Follows}
use Rattle.walk.specs.Walks.{ComesAs}
use Rattle.std.proofs.lemmas.Bool.{OnFalse_from, OnTrue_from}
use Rattle.std.proofs.lemmas.Option.{none-some, same_Some}
use Rattle.std.proofs.lemmas.Result.{IfOk-from_err}
use Rattle.walk.proofs.Lists.{choice-push_cases, choice-push_here, grown_none}
use Rattle.walk.proofs.Steps.{follows_push}
use Rattle.walk.proofs.walking.follow_to.Goals as goal

-- what comes is the package that is added
comes_pushed : (old : List (ℕ × ℕ)) (q v : ℕ) → ComesAs q (choice_of old) (choice_of (old ++ (q, v) ∷ []))
comes_pushed old q v p k h = elim (choice-push_cases old q v p k h) [
  | inl before ↦ inl before
  | inr same ↦ inr same.0
]

pub returns : goal.returns
returns g c =
    let target = c.args.target in
    let ordinal = c.in-Some-choose.ordinal in
    let chooses = g.C.Chooser.chooses c.args.chooser.now in
    let old = c.args.found.now.entries in
    let new : choice_of old target ≡ None = search rules in
    let grown = c.in_ok-push.ensures in
    record {
      follows = subst (λ (l : List (ℕ × ℕ)). Follows chooses (choice_of l)) (sym grown) (follows_push chooses old target ordinal c.requires.follows (sym c.choose.ensures ∙ c.in-Some-choose.is));
      grown = ((target, ordinal) ∷ [], grown);
      comes = subst (λ (l : List (ℕ × ℕ)). ComesAs target (choice_of old) (choice_of l)) (sym grown) (comes_pushed old target ordinal);
      passed = (ordinal, ap (λ (l : List (ℕ × ℕ)). choice_of l target) grown ∙ choice-push_here old target ordinal new, rw c.if-not-passes.false at c.passes-2.ensures);
      failed = tt;
    }

-- where nothing is added

pub returns-then-not-passes : goal.returns-then-not-passes
returns-then-not-passes g c = record {
  follows = c.requires.follows;
  grown = grown_none c.args.found.now.entries;
  comes = λ p k. inl;
  passed = tt;
  failed = λ k chosen.
      let same = same_Some c.in-Some-choose.ordinal k (sym (sym c.choose.ensures ∙ c.in-Some-choose.is) ∙ chosen) in
      subst (λ i. g.F.Fn.post c.args.passes (i, tt) false) same (rw c.if-not-passes.true at c.passes-2.ensures);
}

pub returns-in_default-choose : goal.returns-in_default-choose
returns-in_default-choose g c = record {
  follows = c.requires.follows;
  grown = grown_none c.args.found.now.entries;
  comes = λ p k. inl;
  passed = tt;
  failed = λ k chosen. absurd (none-some k (sym c.in_default-choose.is ∙ c.choose.ensures ∙ chosen));
}

pub returns-in-Some : goal.returns-in-Some
returns-in-Some g c =
    let here : choice_of c.args.found.now.entries c.args.target ≡ Some c.in-Some.ordinal = search rules in
    record {
      follows = c.requires.follows;
      grown = grown_none c.args.found.now.entries;
      comes = λ p k. inl;
      passed = OnTrue_from c.passes.result _ (λ passed. (c.in-Some.ordinal, here, rw passed at c.passes.ensures));
      failed = OnFalse_from c.passes.result _ (λ failed k chosen.
          let same = same_Some c.in-Some.ordinal k (sym (c.requires.follows c.args.target c.in-Some.ordinal here) ∙ chosen) in
          subst (λ i. g.F.Fn.post c.args.passes (i, tt) false) same (rw failed at c.passes.ensures));
    }

-- where memory is refused

pub returns-in_err-push : goal.returns-in_err-push
returns-in_err-push g c =
    let err = c.from_residual.ensures.0 in
    record {
      follows = IfOk-from_err c.from_residual.result _ err;
      grown = IfOk-from_err c.from_residual.result _ err;
      comes = IfOk-from_err c.from_residual.result _ err;
      passed = IfOk-from_err c.from_residual.result _ err;
      failed = IfOk-from_err c.from_residual.result _ err;
    }
