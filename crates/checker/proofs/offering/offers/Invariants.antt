use Rattle.std.proofs.Common.{◌≡◌, ◌<◌, ◌≤◌, ◌-◌, length}
use Rattle.std.specs.Prelude.{All, sum_by}
use Rattle.checker.specs.Cutting.{AreClear}
use Rattle.checker.specs.Offering.{ShowsOne}
use Rattle.derivations.specs.declared.learnt.TheConstants.{DERIVATION_LINE_LIMIT}
use Rattle.checker.specs.declared.offering.TheConstants.{OFFERED_LIMIT}
use Rattle.checker.proofs.offering.offers.Given as goal

abbrev pub invariant-loop-at : goal.invariant-loop-at
invariant-loop-at l = record {
  clear : AreClear l.known l.numbers.items;
  shown : All (ShowsOne l.known l.places) l.offered.items;
  counted : l.taken ≡ sum_by length l.offered.items;
  few : l.taken ≤ OFFERED_LIMIT;
  kept : l.at < length l.places → l.taken ≤ OFFERED_LIMIT - DERIVATION_LINE_LIMIT;
}
