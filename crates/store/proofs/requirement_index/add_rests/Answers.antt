use Rattle.std.proofs.Common.{◌-◌, List, drop, inl, inr, length, subst, sym, take}
use Rattle.store.specs.RequirementIndex.{Rests}
use Rattle.derivations.specs.Lines.{Line}
use Rattle.store.proofs.Behind.{behind_first, none_behind}
use Rattle.store.proofs.Wanting.{HoldsBut, HoldsBut-next, KeepsHeld-next, KeepsHeld-same}
use Rattle.store.proofs.requirement_index.add_rests.Goals as goal

pub add-init : goal.add-init
add-init c = (KeepsHeld-same c.args.wants.now, λ whole target need rests. inl (subst (λ (lines : List Line). Rests lines target need) (sym c.lines-left.ensures.same) rests))

pub add-preserved : goal.add-preserved
add-preserved c =
    let left = c.add.left.now in
    let old = c.add.wants in
    let mid = c.add_cause.new.wants in
    let new = c.add_cause-in-len1-up.new.wants in
    let split = behind_first left c.line-item.result c.in-len1-up.len_at_least c.line-item.is in (
      KeepsHeld-next c.args.wants.now old new c.add.invariant.0 (KeepsHeld-next old mid new c.add_cause.ensures.keeps c.add_cause-in-len1-up.ensures.keeps),
      HoldsBut-next old mid new c.args.member c.args.learnt.now c.line-item.result (take (length left - 1) (drop 1 left)) c.add_cause.ensures.keeps c.add_cause-in-len1-up.ensures.keeps
          c.add_cause.ensures.there c.add_cause-in-len1-up.ensures.there
          (λ whole. subst (λ (lines : List Line). HoldsBut old c.args.member c.args.learnt.now lines) split (c.add.invariant.1 whole)),
    )

pub returns-clause-keeps : goal.returns-clause-keeps
returns-clause-keeps c = c.add.invariant.0

pub returns-clause-there : goal.returns-clause-there
returns-clause-there c = λ whole target need rests. elim (c.add.invariant.1 whole target need rests) [
  | inl left ↦ absurd (subst (λ (lines : List Line). Rests lines target need) (none_behind c.add.left.now c.in_default.len_below) left)
  | inr held ↦ held
]
