use Rattle.std.proofs.Common.{◌≡◌, ◌-◌, List, ◌∷◌, ap, arith, drop, length, refl, subst, sym, take, true≢false}
use Rattle.std.proofs.lemmas.Bool.{iff_false}
use Rattle.std.specs.Prelude.{◌↔◌}
use Rattle.registry.specs.Registry.{Packages}
use Rattle.derivations.specs.Learning.{AllStand, CauseStands}
use Rattle.derivations.specs.Lines.{Line}
use Rattle.derivations.proofs.Behind.{behind_first, none_behind}
use Rattle.derivations.proofs.learnt.all_stand.Goals.{then-not-cause_stands-via-then-not-cause_stands, then-not-cause_stands-via-else-not-cause_stands+then-not-cause_stands-2}
use Rattle.derivations.proofs.learnt.all_stand.Goals as goal

-- where the premises of the first line stand, the others decide
others_decide : (packages : Packages) (all left rest : List Line) (line : Line) → left ≡ line ∷ rest → CauseStands packages line.causes.0 → CauseStands packages line.causes.1 → AllStand packages all ↔ AllStand packages left → AllStand packages all ↔ AllStand packages rest
others_decide packages all left rest line split one two both = (
  λ h. let first : AllStand packages (line ∷ rest) = subst (AllStand packages) split (both.0 h) in first.2,
  λ h. both.1 (subst (AllStand packages) (sym split) (one, two, h)),
)

pub ask-preserved : goal.ask-preserved
ask-preserved c =
    let left = c.ask.left.now in
    others_decide c.args.registry.now.packages c.args.lines.now left (take (length left - 1) (drop 1 left)) c.line-item.result (behind_first left c.line-item.result c.in-len1-up.len_at_least c.line-item.is)
    (c.cause_stands.ensures.0 c.if-not-cause_stands.false) (c.cause_stands-else-not-cause_stands.ensures.0 c.if-not-cause_stands-2.false) c.ask.invariant

pub ask-smaller : goal.ask-smaller
ask-smaller c = let split = behind_first c.ask.left.now c.line-item.result c.in-len1-up.len_at_least c.line-item.is in omega (arith, ap length split)

pub returns : goal.returns
returns c = (λ t. c.ask.invariant.1 (subst (AllStand c.args.registry.now.packages) (sym (none_behind c.ask.left.now c.in_default.len_below)) tt), λ h. refl)

pub returns-then-not-cause_stands : goal.returns-then-not-cause_stands
returns-then-not-cause_stands c = (
  λ t. absurd (true≢false (sym t)),
  λ h.
      let left = c.ask.left.now in
      let first : AllStand c.args.registry.now.packages (c.line-item.result ∷ take (length left - 1) (drop 1 left)) =
      subst (AllStand c.args.registry.now.packages) (behind_first left c.line-item.result c.in-len1-up.len_at_least c.line-item.is) (c.ask.invariant.0 h) in
      elim c.then-not-cause_stands.branch [
        | then-not-cause_stands-via-then-not-cause_stands w ↦ absurd (iff_false c.cause_stands.ensures w.if-not-cause_stands.true first.0)
        | then-not-cause_stands-via-else-not-cause_stands+then-not-cause_stands-2 w ↦ absurd (iff_false w.cause_stands-else-not-cause_stands.ensures w.if-not-cause_stands-2.true first.1)
      ],
)
