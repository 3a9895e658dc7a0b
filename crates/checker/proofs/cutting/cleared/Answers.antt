use Rattle.std.proofs.Common.{◌∙◌, ◌-◌, List, ap, arith, drop, length, refl, subst, take}
use Rattle.checker.specs.Cutting.{AreNumberedAt}
use Rattle.checker.specs.Taking.{places_of}
use Rattle.checker.specs.declared.taking.Step.{Step}
use Rattle.checker.proofs.Behind.{behind_first, none_behind}
use Rattle.checker.proofs.Clearing.{numbered_less, numbered_none}
use Rattle.checker.proofs.cutting.cleared.Goals as goal

pub clear-init : goal.clear-init
clear-init c = record { size = refl; numbered = c.requires }

pub clear-preserved : goal.clear-preserved
clear-preserved c =
    let left = c.clear.left.now in
    let rest = take (length left - 1) (drop 1 left) in
    let split = behind_first left c.step-item.result c.in-len1-up.len_at_least c.step-item.is in
    record {
      size = c.clear_at.ensures.length ∙ c.clear.invariant.size;
      numbered = numbered_less c.clear.list.items c.step-item.result.place (places_of rest) c.clear_at.new.numbers.items
          (subst (λ (steps : List Step). AreNumberedAt c.clear.list.items (places_of steps)) split c.clear.invariant.numbered) c.clear_at.ensures.here c.clear_at.ensures.others;
    }

pub clear-smaller : goal.clear-smaller
clear-smaller c = let split = behind_first c.clear.left.now c.step-item.result c.in-len1-up.len_at_least c.step-item.is in omega (arith, ap length split)

pub returns-clause-zeros : goal.returns-clause-zeros
returns-clause-zeros c = numbered_none c.clear.list.items (places_of c.clear.left.now) (ap places_of (none_behind c.clear.left.now c.in_default.len_below)) c.clear.invariant.numbered
