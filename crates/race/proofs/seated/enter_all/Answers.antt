use Rattle.std.proofs.Common.{◌≡◌, ◌≤◌, ◌++◌, ◌∷◌, [], length, ap, subst, sym, ◌∙◌, arith}
use Rattle.std.proofs.lemmas.List.{append-nil, append_assoc, nil_from_length}
use Rattle.std.specs.Vec.Iter.{into_iter_items}
use Rattle.chronicle.specs.Cells.{Cells}
use Rattle.chronicle.specs.declared.row.TheConstants.{CAPACITY_LIMIT}
use Rattle.race.specs.Seated.{Enters}
use Rattle.race.proofs.SeatedLemmas.{enters_more}
use Rattle.race.proofs.seated.enter_all.Goals as goal

pub loop-item-preserved : goal.loop-item-preserved
loop-item-preserved c =
    let at = c.loop-item in
    let item = c.in-Some.item in
    let steps : into_iter_items at.item-iterator ≡ item ∷ into_iter_items c.next.new.self = c.in-Some.ensures.steps.0 in
    let short = ap length steps in
    let gone = c.in-Some.ensures.steps.1 in
    let left = at.invariant.left in
    let next = c.in_ok-enter_next.ensures in
    record {
      split = append_assoc at.yielded (item ∷ []) _ ∙ rw (← steps) at.invariant.split;
      left = omega arith;
      limit = subst (λ (r : Cells). r.capacity ≤ CAPACITY_LIMIT) (sym next.row) at.invariant.limit;
      entered = enters_more _ at.seat c.enter_next.new.seat at.yielded item at.invariant.entered next;
    }

pub returns-clause-entered : goal.returns-clause-entered
returns-clause-entered c =
    let at = c.loop-item in
    let none : length (into_iter_items at.item-iterator) ≡ 0 = omega (arith, at.invariant.left, c.in-None.ensures.steps) in
    let gone = nil_from_length (into_iter_items at.item-iterator) none in
    subst (λ l. Enters c.args.seat.now l at.seat) (sym (append-nil at.yielded) ∙ ap (λ l. at.yielded ++ l) (sym gone) ∙ at.invariant.split ∙ c.into_iter-item-iterator.ensures.into_iter_gives.0) at.invariant.entered
