use Rattle.std.proofs.Common.{◌≡◌, ◌-◌, List, ◌∷◌, ap, arith, drop, length, refl, subst, sym, take, true≢false}
use Rattle.std.proofs.lemmas.Bool.{iff_false}
use Rattle.std.specs.Prelude.{◌↔◌}
use Rattle.checker.specs.Offering.{MayRestOn, RestOnPremises}
use Rattle.derivations.specs.Lines.{Line}
use Rattle.checker.proofs.Behind.{behind_first, none_behind}
use Rattle.checker.proofs.offering.rest_on_premises.Goals.{then-not-may_rest_on-via-then-not-may_rest_on, then-not-may_rest_on-via-else-not-may_rest_on+then-not-may_rest_on-2}
use Rattle.checker.proofs.offering.rest_on_premises.Goals as goal

-- where the first line may rest on what it does, the others decide
others_decide : (all left rest : List Line) (line : Line) → left ≡ line ∷ rest → MayRestOn line.causes.0 → MayRestOn line.causes.1 → RestOnPremises all ↔ RestOnPremises left → RestOnPremises all ↔ RestOnPremises rest
others_decide all left rest line split one two both = (
  λ h. let first : RestOnPremises (line ∷ rest) = subst RestOnPremises split (both.0 h) in first.2,
  λ h. both.1 (subst RestOnPremises (sym split) (one, two, h)),
)

pub look-preserved : goal.look-preserved
look-preserved c =
    let left = c.look.left.now in
    others_decide c.args.lines.now left (take (length left - 1) (drop 1 left)) c.line-item.result (behind_first left c.line-item.result c.in-len1-up.len_at_least c.line-item.is)
    (c.may_rest_on.ensures.0 c.if-not-may_rest_on.false) (c.may_rest_on-else-not-may_rest_on.ensures.0 c.if-not-may_rest_on-2.false) c.look.invariant

pub look-smaller : goal.look-smaller
look-smaller c = let split = behind_first c.look.left.now c.line-item.result c.in-len1-up.len_at_least c.line-item.is in omega (arith, ap length split)

pub returns : goal.returns
returns c = (λ t. c.look.invariant.1 (subst RestOnPremises (sym (none_behind c.look.left.now c.in_default.len_below)) tt), λ h. refl)

pub returns-then-not-may_rest_on : goal.returns-then-not-may_rest_on
returns-then-not-may_rest_on c = (
  λ t. absurd (true≢false (sym t)),
  λ h.
      let left = c.look.left.now in
      let first : RestOnPremises (c.line-item.result ∷ take (length left - 1) (drop 1 left)) =
      subst RestOnPremises (behind_first left c.line-item.result c.in-len1-up.len_at_least c.line-item.is) (c.look.invariant.0 h) in
      elim c.then-not-may_rest_on.branch [
        | then-not-may_rest_on-via-then-not-may_rest_on w ↦ absurd (iff_false c.may_rest_on.ensures w.if-not-may_rest_on.true first.0)
        | then-not-may_rest_on-via-else-not-may_rest_on+then-not-may_rest_on-2 w ↦ absurd (iff_false w.may_rest_on-else-not-may_rest_on.ensures w.if-not-may_rest_on-2.true first.1)
      ],
)
