use Rattle.std.proofs.Common.{◌≡◌, ◌∙◌, ap, arith, drop, length, rules, subst, suc, sym}
use Rattle.std.proofs.lemmas.List.{get_or_default}
use Rattle.std.specs.Vec.Iter.{into_iter_items}
use Rattle.checker.specs.Pairing.{IsSameSearch}
use Rattle.checker.proofs.Moving.{AreMoved-none, all_moved, first_left, moved_search, nothing_left, same_search}
use Rattle.checker.proofs.pairing.paired.Goals as goal

pub returns-then-is_empty : goal.returns-then-is_empty
returns-then-is_empty c = same_search c.args.known.items c.args.place c.requires.ordered

pub loop-line-init : goal.loop-line-init
loop-line-init c =
    let given : into_iter_items c.into_iter-line-iterator.result ≡ c.args.known.items = search rules in record {
      moved = AreMoved-none c.args.known.items c.in_ok-lines.lines.items c.in_ok-places.places.items c.in_ok-lines.ensures.items c.in_ok-places.ensures.items;
      left = given ∙ ap (λ n. drop n c.args.known.items) (sym (ap length c.in_ok-places.ensures.items));
    }

pub move_line-requires : goal.move_line-requires
move_line-requires c =
    let at = c.loop-line in
    let split = first_left c.args.known.items (length at.places.items) c.in-Some.line (into_iter_items c.next.new.self) (sym at.invariant.left ∙ c.in-Some.ensures.steps.0) in
    c.requires.ordered (length at.places.items) c.in-Some.line split.0

pub loop-line-preserved : goal.loop-line-preserved
loop-line-preserved c =
    let at = c.loop-line in
    let known = c.args.known.items in
    let split = first_left known (length at.places.items) c.in-Some.line (into_iter_items c.next.new.self) (sym at.invariant.left ∙ c.in-Some.ensures.steps.0) in
    let more : suc (length at.places.items) ≡ length c.move_line.new.places.items = omega (arith, c.in_ok-move_line.ensures.counted) in
    record {
      moved = c.in_ok-move_line.ensures.moved known split.0 at.invariant.moved;
      left = sym split.1 ∙ ap (λ n. drop n known) more;
    }

pub returns : goal.returns
returns c =
    let at = c.loop-line in
    let known = c.args.known.items in
    let places = at.places.items in
    let all = nothing_left known (into_iter_items at.line-iterator) (length places) at.invariant.left (sym at.line-iterator.rest.ok.0 ∙ c.in-None.ensures.steps.0) in
    subst (λ n. IsSameSearch known c.args.place at.lines.items n)
    (get_or_default places c.args.place 0 c.index-at.result.now (all_moved known places c.args.place c.requires.resolved all) ∙ sym c.index-at.ensures)
    (moved_search known at.lines.items places c.args.place at.invariant.moved all)

pub index-at-requires : goal.index-at-requires
index-at-requires c =
    let at = c.loop-line in
    let known = c.args.known.items in
    let places = at.places.items in
    let all = nothing_left known (into_iter_items at.line-iterator) (length places) at.invariant.left (sym at.line-iterator.rest.ok.0 ∙ c.in-None.ensures.steps.0) in
    omega (arith, all_moved known places c.args.place c.requires.resolved all, at.places.ok.0)

pub loop-line-smaller : goal.loop-line-smaller
loop-line-smaller c = omega (arith, c.in-Some.ensures.steps.1)
