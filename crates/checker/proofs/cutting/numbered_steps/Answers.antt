use Rattle.std.proofs.Common.{◌≡◌, ◌∙◌, ℕ, List, [], ap, arith, inl, length, refl, reverse, subst, sym, true≢false}
use Rattle.std.proofs.Math.ListN.{length-set}
use Rattle.std.proofs.lemmas.List.{length-map}
use Rattle.checker.specs.Cutting.{IsOpen, IsReady}
use Rattle.checker.specs.Taking.{line_at, lines_at}
use Rattle.derivations.specs.Lines.{Line}
use Rattle.checker.specs.declared.taking.Step.{Step}
use Rattle.checker.proofs.Taken.{AreStepsTo, lines_pushed, one_more}
use Rattle.checker.proofs.Walking.{IsWalk, ends, falls_up, goes_down, goes_up, open_within, some_pushed, start}
use Rattle.checker.proofs.cutting.numbered_steps.Goals as goal

pub returns-in-None-pop : goal.returns-in-None-pop
returns-in-None-pop c =
    let known = c.args.known.now in
    let numbers = c.walk.numbers.items in
    let steps = c.walk.steps.items in
    let step = c.in_ok-step-in-None.step in
    let steps' = c.push-in-None.new.self.items in
    let number = length c.as_slice-in-None.result.now in
    let pushed = lines_pushed known steps step steps' c.in_ok-push-in-None.ensures.items in
    let some = some_pushed steps step c.as_slice-in-None.result.now (c.as_slice-in-None.ensures.value ∙ c.in_ok-push-in-None.ensures.items) in
    let more = one_more known numbers steps c.walk.at number step steps' c.walk.invariant.1 c.walk.invariant.0.here c.walk.invariant.0.lengths c.in_ok-step-in-None.ensures.here some c.in_ok-push-in-None.ensures.items in
    record {
      shows = λ whole.
          ends known c.args.place numbers (lines_at known steps) c.walk.users.items c.walk.at c.walk.invariant.0 c.deref-in-None.result.now (line_at known step) c.in_ok-step-in-None.ensures.same c.deref-in-None.ensures.value
          (lines_at known steps') pushed number (ap length c.as_slice-in-None.ensures.value ∙ sym (length-map steps' (line_at known))) (sym c.walk.users.ok.0 ∙ c.in-None-pop.ensures.cases.0);
      whole = λ none. refl;
      placed = more.placed;
      length = length-set numbers c.walk.at number ∙ c.walk.invariant.0.lengths;
      numbered = more.numbered;
    }

pub walk-smaller : goal.walk-smaller
walk-smaller c =
    let known = c.args.known.now in
    falls_up known c.args.place c.walk.numbers.items (lines_at known c.walk.steps.items) c.walk.users.items c.walk.at c.walk.invariant.0 c.pop.new.self.items c.in-Some-pop.user (length c.as_slice-in-None.result.now) c.in-Some-pop.ensures.items
    (some_pushed c.walk.steps.items c.in_ok-step-in-None.step c.as_slice-in-None.result.now (c.as_slice-in-None.ensures.value ∙ c.in_ok-push-in-None.ensures.items))

pub walk-preserved : goal.walk-preserved
walk-preserved c =
    let known = c.args.known.now in
    let steps = c.walk.steps.items in
    let step = c.in_ok-step-in-None.step in
    let steps' = c.push-in-None.new.self.items in
    let pushed = lines_pushed known steps step steps' c.in_ok-push-in-None.ensures.items in
    let some = some_pushed steps step c.as_slice-in-None.result.now (c.as_slice-in-None.ensures.value ∙ c.in_ok-push-in-None.ensures.items) in (
      goes_up known c.args.place c.walk.numbers.items (lines_at known steps) c.walk.users.items c.walk.at c.walk.invariant.0 c.deref-in-None.result.now (line_at known step) c.in_ok-step-in-None.ensures.same c.deref-in-None.ensures.value
          (lines_at known steps') pushed (length c.as_slice-in-None.result.now) (ap length c.as_slice-in-None.ensures.value ∙ sym (length-map steps' (line_at known))) c.pop.new.self.items c.in-Some-pop.user c.in-Some-pop.ensures.items,
      one_more known c.walk.numbers.items steps c.walk.at (length c.as_slice-in-None.result.now) step steps' c.walk.invariant.1 c.walk.invariant.0.here c.walk.invariant.0.lengths c.in_ok-step-in-None.ensures.here some c.in_ok-push-in-None.ensures.items,
    )

pub index_mut-requires : goal.index_mut-requires
index_mut-requires c = omega (arith, open_within c.args.known.now c.walk.numbers.items c.walk.at c.walk.invariant.0.here, c.walk.invariant.0.lengths, c.walk.numbers.ok.0)

pub walk-preserved-in-Some : goal.walk-preserved-in-Some
walk-preserved-in-Some c = (
  goes_down c.args.known.now c.args.place c.walk.numbers.items (lines_at c.args.known.now c.walk.steps.items) c.walk.users.items c.walk.at c.walk.invariant.0 c.deref.result.now c.deref.ensures.value
      c.in-Some.cause c.in-Some.ensures.open_there c.in-Some.ensures.below c.in-Some.ensures.cause c.push.new.self.items c.in_ok-push-in-Some.ensures.items,
  c.walk.invariant.1,
)

pub walk-init : goal.walk-init
walk-init c =
    let known = c.args.known.now in
    let zeros = c.args.zeros.items in
    let lines : lines_at known c.in_ok-steps.steps.items ≡ [] = ap (lines_at known) c.in_ok-steps.ensures.items in
    let users : reverse c.in_ok-users.users.items ≡ [] = ap reverse c.in_ok-users.ensures.items in (
      subst (λ (all : List Line). IsWalk known c.args.place zeros all (reverse c.in_ok-users.users.items) c.args.place) (sym lines)
          (subst (λ (all : List ℕ). IsWalk known c.args.place zeros [] all c.args.place) (sym users) (start known c.args.place zeros c.requires.clear.lengths c.requires.clear.zeros c.requires.resolved)),
      subst (λ (steps : List Step). AreStepsTo known zeros steps) (sym c.in_ok-steps.ensures.items) (record { numbered = λ k. inl (c.requires.clear.zeros k); have = tt; placed = tt }),
    )

pub walk-smaller-in-Some : goal.walk-smaller-in-Some
walk-smaller-in-Some c = omega (arith, c.in-Some.ensures.below)

pub open_cause-requires : goal.open_cause-requires
open_cause-requires c = record {
  ordered = c.requires.ordered;
  lengths = ap length c.deref.ensures.value ∙ c.walk.invariant.0.lengths;
  here = subst (λ numbers. IsOpen c.args.known.now numbers c.walk.at) (sym c.deref.ensures.value) c.walk.invariant.0.here;
}

pub step_for-requires : goal.step_for-requires
step_for-requires c = record {
  lengths = ap length c.deref-in-None.ensures.value ∙ c.walk.invariant.0.lengths;
  ready = subst (λ numbers. IsReady c.args.known.now numbers c.walk.at) (c.deref.ensures.value ∙ sym c.deref-in-None.ensures.value) c.in-None.ensures.ready;
}

pub returns-then-is_beyond : goal.returns-then-is_beyond
returns-then-is_beyond c = record {
  shows = λ whole. absurd (true≢false (sym whole));
  whole = λ none. absurd (true≢false (sym c.if-is_beyond.true ∙ c.is_beyond.ensures none));
  placed = c.walk.invariant.1.placed;
  length = c.walk.invariant.0.lengths;
  numbered = c.walk.invariant.1.numbered;
}
