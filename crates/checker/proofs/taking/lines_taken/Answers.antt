use Rattle.std.proofs.Common.{◌≡◌, ◌∙◌, ◌++◌, List, [], ap, length, subst, sym}
use Rattle.std.proofs.lemmas.List.{append-nil, nil_from_length}
use Rattle.std.specs.Vec.Iter.{into_iter_items}
use Rattle.checker.specs.Taking.{ArePlaced, lines_at}
use Rattle.derivations.specs.Lines.{Line}
use Rattle.checker.specs.declared.taking.Step.{Step}
use Rattle.checker.proofs.Taken.{one_written, same_elsewhere}
use Rattle.checker.proofs.taking.lines_taken.Goals as goal

pub loop-step-preserved : goal.loop-step-preserved
loop-step-preserved c =
    let at = c.loop-step in
    let step = c.in-Some.step in
    let rest = into_iter_items c.next.new.self in
    let first = c.in-Some.ensures.steps.0 in
    let taken = c.take_at.ensures in
    let left = c.take_at.new.known.items in
    let placed = subst (ArePlaced (length at.left.items)) first at.invariant.placed in
    record {
      split = one_written at.left.items left at.lines.items c.push.new.self.items c.take_at.result step (into_iter_items at.step-iterator) rest _ at.invariant.split first taken.said
          (same_elsewhere at.left.items left step.place rest placed.1 taken.others) c.in_ok-push.ensures.items;
      placed = subst (λ n. ArePlaced n rest) (sym taken.length) placed.2;
    }

pub loop-step-init : goal.loop-step-init
loop-step-init c =
    let known = c.args.known.items in
    let steps = into_iter_items c.into_iter-step-iterator.result in
    record {
      split = ap (λ (lines : List Line). lines ++ lines_at known steps) c.in_ok-lines.ensures.items;
      placed = subst (ArePlaced (length known)) (sym c.into_iter-step-iterator.ensures.into_iter_gives.0) c.requires;
    }

pub take_at-requires : goal.take_at-requires
take_at-requires c =
    let at = c.loop-step in
    let placed = subst (ArePlaced (length at.left.items)) c.in-Some.ensures.steps.0 at.invariant.placed in
    placed.0

pub returns : goal.returns
returns c =
    let at = c.loop-step in
    let none : into_iter_items at.step-iterator ≡ [] = nil_from_length (into_iter_items at.step-iterator) (sym at.step-iterator.rest.ok.0 ∙ c.in-None.ensures.steps.0) in
    sym (append-nil at.lines.items) ∙ ap (λ (steps : List Step). at.lines.items ++ lines_at at.left.items steps) (sym none) ∙ at.invariant.split
    ∙ ap (lines_at c.args.known.items) c.into_iter-step-iterator.ensures.into_iter_gives.0
