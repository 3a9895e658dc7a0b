use Rattle.std.proofs.Common.{◌≡◌, ◌∙◌, ℕ, List, [], sym, ap, subst, inl, inr, false, true≢false, nat_eq}
use Rattle.std.proofs.lemmas.Bool.{eqb-true, or_cases}
use Rattle.std.proofs.lemmas.Result.{IfOk-from_err}
use Rattle.terms.specs.Sets.{has, AddsOrdinal}
use Rattle.registry.specs.Registry.{Packages}
use Rattle.registry.specs.Requests.{Wanted, is_allowed}
use Rattle.derivations.specs.Derivations.{NoneAllowed}
use Rattle.checker.proofs.replaying.barred_of.Goals as goal
use Rattle.checker.proofs.replaying.barred_of.Goals.{then-not-allowed+in_ok-insert, else-not-allowed}

barred_none : (packages : Packages) (wanted : Wanted) (p : ℕ) (set : List ℕ) → set ≡ [] → NoneAllowed packages wanted p set
barred_none packages wanted p set e k h = absurd (true≢false (sym h ∙ ap (λ xs. has xs k) e))

-- one version more that is not allowed
barred_more : (packages : Packages) (wanted : Wanted) (p : ℕ) (old new : List ℕ) (n : ℕ) → NoneAllowed packages wanted p old → AddsOrdinal old new n → is_allowed packages wanted p n ≡ false
    → NoneAllowed packages wanted p new
barred_more packages wanted p old new n h adds barred k yes_k = elim (or_cases (has old k) (nat_eq n k) (sym (adds k) ∙ yes_k)) [
  | inl before ↦ h k before
  | inr same ↦ subst (λ j. is_allowed packages wanted p j ≡ false) (eqb-true n k same) barred
]

pub loop-ordinal-init : goal.loop-ordinal-init
loop-ordinal-init c = barred_none c.args.task.now.registry.now.packages c.args.task.now.request.now c.args.pkg c.new-barred.result c.new-barred.ensures

pub loop-ordinal-preserved : goal.loop-ordinal-preserved
loop-ordinal-preserved c =
    let packages = c.args.task.now.registry.now.packages in
    let wanted = c.args.task.now.request.now in
    elim c.if-not-allowed.branch [
      | then-not-allowed+in_ok-insert w ↦ rw w.barred-is (barred_more packages wanted c.args.pkg c.loop-ordinal.barred w.insert.new.self c.loop-ordinal.ordinal c.loop-ordinal.invariant w.in_ok-insert.ensures.added (sym c.allowed.ensures ∙ w.if-not-allowed.true))
      | else-not-allowed w ↦ rw w.barred-is c.loop-ordinal.invariant
    ]

-- where memory is refused

pub returns-in_err-insert : goal.returns-in_err-insert
returns-in_err-insert c = IfOk-from_err c.from_residual.result _ c.from_residual.ensures.0
