use Rattle.std.proofs.Common.{List, ◌≡◌, ◌+◌, ◌-◌, ◌<◌, ◌≤◌, ◌∙◌, ap, arith, get_or, length, subst, sym}
use Rattle.std.proofs.lemmas.Bool.{ne_eqb}
use Rattle.std.specs.Prelude.{All, IfSome, sum_by}
use Rattle.checker.specs.Cutting.{ShowsLine}
use Rattle.checker.specs.Offering.{ShowsOne}
use Rattle.derivations.specs.Lines.{Line}
use Rattle.derivations.specs.declared.learnt.TheConstants.{DERIVATION_LINE_LIMIT}
use Rattle.checker.specs.declared.offering.TheConstants.{OFFERED_LIMIT}
use Rattle.checker.proofs.Offered.{all_pushed, all_stand, counted_few, counted_none, counted_some}
use Rattle.checker.proofs.offering.offers.Goals.{Joined-found, in-Some+in_ok-push, in_default}
use Rattle.checker.proofs.offering.offers.Goals as goal

pub returns-clause-stand : goal.returns-clause-stand
returns-clause-stand c = all_stand c.derived_lines_stand.ensures c.args.known.now c.args.places.now c.loop-at.offered.items c.loop-at.invariant.shown

-- what was found has room
has_room : (c : Joined-found) → c.count_lines.result ≤ c.room_behind-room.result
has_room c = counted_few c.in_ok-found.found _ _ c.count_lines.ensures.none c.count_lines.ensures.some c.in_ok-found.ensures.few

-- before the last place there is room for the last offer
before_last : (c : Joined-found) → c.loop-at.at + 1 < length c.args.places.now → c.saturating_add-taken.result ≤ OFFERED_LIMIT - DERIVATION_LINE_LIMIT
before_last c before =
    let other = ne_eqb (c.loop-at.at + 1) (length c.args.places.now) (λ same. omega (arith, before, same)) in
    omega (arith, has_room c, c.room_behind-room.ensures.kept other (c.loop-at.invariant.kept c.loop-at-test.true), c.saturating_add-taken.ensures)

-- and all have no more lines than they may
all_few : (c : Joined-found) → c.loop-at.taken + c.count_lines.result ≤ OFFERED_LIMIT
all_few c = omega (arith, has_room c, c.room_behind-room.ensures.few, c.loop-at.invariant.kept c.loop-at-test.true)

pub loop-at-preserved : goal.loop-at-preserved
loop-at-preserved c = record {
  clear = c.in_ok-found.ensures.clear;
  shown = elim c.match-found.branch [
    | in-Some+in_ok-push w ↦
        all_pushed c.args.known.now c.args.places.now c.loop-at.at 0 c.loop-at.offered.items w.in-Some.learnt c.match-found.offered.items c.loop-at.invariant.shown c.loop-at-test.true
        (subst (λ found. IfSome found (ShowsLine c.args.known.now (get_or c.args.places.now c.loop-at.at 0))) w.in-Some.is c.in_ok-found.ensures.shows)
        (ap (λ v. v.items) w.offered-is ∙ w.in_ok-push.ensures.items)
    | in_default w ↦ subst (λ v. All (ShowsOne c.args.known.now c.args.places.now) v.items) (sym w.offered-is) c.loop-at.invariant.shown
  ];
  counted =
      let more : c.saturating_add-taken.result ≡ c.loop-at.taken + c.count_lines.result = omega (arith, all_few c, c.saturating_add-taken.ensures) in
      elim c.match-found.branch [
        | in-Some+in_ok-push w ↦
            counted_some c.in_ok-found.found w.in-Some.learnt c.loop-at.offered.items c.match-found.offered.items _ _ _ w.in-Some.is c.count_lines.ensures.some
            (ap (λ v. v.items) w.offered-is ∙ w.in_ok-push.ensures.items) c.loop-at.invariant.counted more
        | in_default w ↦
            counted_none c.in_ok-found.found c.loop-at.offered.items c.match-found.offered.items _ _ _ w.in_default.is c.count_lines.ensures.none
            (ap (λ v. v.items) w.offered-is) c.loop-at.invariant.counted more
      ];
  few = omega (arith, all_few c, c.saturating_add-taken.ensures);
  kept = λ before. before_last c before;
}

pub loop-at-init : goal.loop-at-init
loop-at-init c = record {
  clear = record { lengths = c.in_ok-numbers.ensures.length; zeros = c.in_ok-numbers.ensures.zeros };
  shown = λ k d lt. absurd (omega (arith, lt, ap length c.new-offered.ensures.items));
  counted = sym (ap (λ (l : List (List Line)). sum_by length l) c.new-offered.ensures.items);
  few = omega arith;
  kept = λ _. omega arith;
}

pub returns-clause-from : goal.returns-clause-from
returns-clause-from c = c.loop-at.invariant.shown
