use Rattle.std.proofs.Common.{◌≡◌, ◌∙◌, ◌++◌, List, [], ap, length, refl, subst, sym}
use Rattle.std.proofs.lemmas.List.{append-nil, nil_from_length}
use Rattle.std.specs.Vec.Iter.{into_iter_items}
use Rattle.checker.specs.Taking.{ArePlaced, lines_at, said_at}
use Rattle.derivations.specs.Lines.{Line}
use Rattle.checker.specs.declared.taking.Step.{Step}
use Rattle.checker.proofs.Taken.{one_written}
use Rattle.checker.proofs.taking.lines_copied.Goals as goal

pub loop-step-preserved : goal.loop-step-preserved
loop-step-preserved c =
    let at = c.loop-step in
    let known = c.args.known.now in
    let step = c.in-Some.step in
    let rest = into_iter_items c.next.new.self in
    let first = c.in-Some.ensures.steps.0 in
    let placed = subst (ArePlaced (length known)) first at.invariant.placed in
    record {
      split = one_written known known at.lines.items c.copy_line.new.lines.items (said_at known step.place) step (into_iter_items at.step-iterator) rest _ at.invariant.split first refl refl c.in-Ok.ensures;
      placed = placed.2;
    }

pub loop-step-init : goal.loop-step-init
loop-step-init c =
    let known = c.args.known.now in
    let steps = into_iter_items c.into_iter-step-iterator.result in
    record {
      split = ap (λ (lines : List Line). lines ++ lines_at known steps) c.in_ok-lines.ensures.items;
      placed = subst (ArePlaced (length known)) (sym c.into_iter-step-iterator.ensures.into_iter_gives.0) c.requires;
    }

pub copy_line-requires : goal.copy_line-requires
copy_line-requires c =
    let placed = subst (ArePlaced (length c.args.known.now)) c.in-Some.ensures.steps.0 c.loop-step.invariant.placed in
    placed.0

pub returns : goal.returns
returns c =
    let at = c.loop-step in
    let known = c.args.known.now in
    let none : into_iter_items at.step-iterator ≡ [] = nil_from_length (into_iter_items at.step-iterator) (sym at.step-iterator.rest.ok.0 ∙ c.in-None.ensures.steps.0) in
    sym (append-nil at.lines.items) ∙ ap (λ (steps : List Step). at.lines.items ++ lines_at known steps) (sym none) ∙ at.invariant.split
    ∙ ap (lines_at known) c.into_iter-step-iterator.ensures.into_iter_gives.0
