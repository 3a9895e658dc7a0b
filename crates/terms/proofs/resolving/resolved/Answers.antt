use Rattle.std.proofs.Common.{◌≡◌, ◌<◌, ◌≤◌, ◌+◌, ◌∙◌, List, [], ◌∷◌, ap, arith, length, nat_eq, refl, sym}
use Rattle.std.proofs.lemmas.Result.{IfOk-from_err}
use Rattle.terms.proofs.MergedTerms.{Follows-end, begin, falls, pushed, turn}
use Rattle.terms.proofs.resolving.resolved.Goals as goal
use Rattle.terms.proofs.resolving.resolved.Goals.{After-behind_package-right, then-left-gt0, else-left-gt0+then-right-gt0, in-Some+in_ok-push-in-Some, in-None}

-- some term is left
some : (c : After-behind_package-right) → 0 < length c.merge.left.now + length c.merge.right.now
some c = elim c.if-left-gt0.branch [ then-left-gt0 w ↦ omega arith | else-left-gt0+then-right-gt0 w ↦ omega arith ]

none-left : {A : Type 0} (l : List A) → length l ≤ 0 → l ≡ []
none-left [] none = refl
none-left (x ∷ l) none = absurd (omega (arith, none))

pub merge-init : goal.merge-init
merge-init c = rw c.in_ok-kept.ensures.items (begin c.args.pivot c.args.first.now c.args.second.now c.requires.first c.requires.second)

pub merge-smaller : goal.merge-smaller
merge-smaller c =
    rw (c.behind_package-left.ensures, c.behind_package-right.ensures, c.least_package-pkg.ensures) (falls c.merge.left.now c.merge.right.now (some c))

pub merge-preserved : goal.merge-preserved
merge-preserved c =
    let kept : c.match-branch-3.kept.items ≡ pushed c.merge.kept.items c.least_package-pkg.result c.in_ok-term.field-0 =
    elim c.match-branch-3.branch [
      | in-None w ↦ rw w.in-None.is (ap (λ v. v.items) w.kept-is)
      | in-Some+in_ok-push-in-Some w ↦ ap (λ v. v.items) w.kept-is ∙ w.in_ok-push-in-Some.ensures.items ∙ ap (λ o. pushed c.merge.kept.items c.least_package-pkg.result o) (sym w.in-Some.is)
    ] in
    turn c.args.pivot c.args.first.now c.args.second.now c.merge.kept.items c.merge.left.now c.merge.right.now c.merge.invariant (some c)
    c.least_package-pkg.result (nat_eq c.least_package-pkg.result c.args.pivot) _ _ c.in_ok-term.field-0 c.match-branch-3.kept.items c.behind_package-left.result.now c.behind_package-right.result.now
    c.least_package-pkg.ensures refl c.front_term-on_left.ensures c.front_term-on_right.ensures c.in_ok-term.ensures.exact c.in_ok-term.ensures.kept c.in_ok-term.ensures.ascending
    kept c.behind_package-left.ensures c.behind_package-right.ensures

pub returns-clause-ordered : goal.returns-clause-ordered
returns-clause-ordered c = c.merge.invariant.ordered

pub returns-clause-follows : goal.returns-clause-follows
returns-clause-follows c =
    Follows-end c.args.pivot c.args.first.now c.args.second.now c.merge.kept.items
    (rw (none-left c.merge.left.now c.if-left-gt0.false, none-left c.merge.right.now c.if-right-gt0.false) at c.merge.invariant)

pub returns-clause-ascending : goal.returns-clause-ascending
returns-clause-ascending c = c.merge.invariant.terms

pub returns-in_err-kept : goal.returns-in_err-kept
returns-in_err-kept c = let failed = c.from_residual in record { ordered = IfOk-from_err failed.result _ failed.ensures.0; follows = IfOk-from_err failed.result _ failed.ensures.0; ascending = IfOk-from_err failed.result _ failed.ensures.0 }

pub returns-in_err-term : goal.returns-in_err-term
returns-in_err-term c = let failed = c.from_residual-in_err-term in record { ordered = IfOk-from_err failed.result _ failed.ensures.0; follows = IfOk-from_err failed.result _ failed.ensures.0; ascending = IfOk-from_err failed.result _ failed.ensures.0 }

pub returns-in_err-push-in-Some : goal.returns-in_err-push-in-Some
returns-in_err-push-in-Some c = let failed = c.from_residual-in_err-push-in-Some in record { ordered = IfOk-from_err failed.result _ failed.ensures.0; follows = IfOk-from_err failed.result _ failed.ensures.0; ascending = IfOk-from_err failed.result _ failed.ensures.0 }
