use Rattle.std.proofs.Common.{◌≡◌, ◌∙◌, ◌<◌, ℕ, List, arith, get_or, length, subst, sym}
use Rattle.std.proofs.lemmas.Option.{get_or_from_slice_get}
use Rattle.derivations.specs.CausedIncompatibilities.{AreOrdered, IsResolved}
use Rattle.checker.specs.Cutting.{IsCauseOf, IsOpen}
use Rattle.derivations.specs.declared.known.CausedIncompatibility.{CausedIncompatibility}
use Rattle.derivations.specs.declared.known.Reason.TheVariants.{Resolved}
use Rattle.checker.proofs.Walking.{before_by, causes_by, open_by, open_within, open_zero_by, ready_by}
use Rattle.checker.proofs.cutting.open_cause.Goals as goal

-- the two that the line cites which is to be written
record AreCauses (known : List CausedIncompatibility) (numbers : List ℕ) (at i j : ℕ) : Type 0 where
  within : (i < length known) × (j < length known)
  numbered : (i < length numbers) × (j < length numbers)
  before : (i < at) × (j < at)
  causes : IsCauseOf known i at × IsCauseOf known j at

are_causes : (known : List CausedIncompatibility) (numbers : List ℕ) (at i j pivot : ℕ) (own : CausedIncompatibility) → AreOrdered known → length numbers ≡ length known → IsOpen known numbers at → own ≡ get_or known at own
    → own.reason ≡ Resolved i j pivot → AreCauses known numbers at i j
are_causes known numbers at i j pivot own ordered lengths here is reason =
    let within = open_within known numbers at here in
    let before = before_by known at i j pivot own ordered within is reason in
    record {
      within = (omega (arith, before.0, within), omega (arith, before.1, within));
      numbered = (omega (arith, before.0, within, lengths), omega (arith, before.1, within, lengths));
      before = before;
      causes = causes_by known at i j pivot own within is reason;
    }

pub bounds-known-at : goal.bounds-known-at
bounds-known-at c = open_within c.args.known.now c.args.numbers.now c.args.at c.requires.here

pub cites-i-requires : goal.cites-i-requires
cites-i-requires c =
    let here = c.requires.here in
    subst (λ (line : CausedIncompatibility). IsResolved line.reason) (sym (c.index-known-at.is ∙ get_or_from_slice_get c.args.known.now c.args.at here.line c.index-known-at.result here.at))
    (open_zero_by here.line.reason (get_or c.args.numbers.now c.args.at 0) here.open_there).1

pub bounds-known-j : goal.bounds-known-j
bounds-known-j c = (are_causes c.args.known.now c.args.numbers.now c.args.at c.cites-i.result.0 c.cites-i.result.1 c.cites-i.result.2 c.index-known-at.result c.requires.ordered c.requires.lengths c.requires.here c.index-known-at.is c.cites-i.ensures).within.1

pub bounds-numbers-j : goal.bounds-numbers-j
bounds-numbers-j c = (are_causes c.args.known.now c.args.numbers.now c.args.at c.cites-i.result.0 c.cites-i.result.1 c.cites-i.result.2 c.index-known-at.result c.requires.ordered c.requires.lengths c.requires.here c.index-known-at.is c.cites-i.ensures).numbered.1

pub bounds-known-i : goal.bounds-known-i
bounds-known-i c = (are_causes c.args.known.now c.args.numbers.now c.args.at c.cites-i.result.0 c.cites-i.result.1 c.cites-i.result.2 c.index-known-at.result c.requires.ordered c.requires.lengths c.requires.here c.index-known-at.is c.cites-i.ensures).within.0

pub bounds-numbers-i : goal.bounds-numbers-i
bounds-numbers-i c = (are_causes c.args.known.now c.args.numbers.now c.args.at c.cites-i.result.0 c.cites-i.result.1 c.cites-i.result.2 c.index-known-at.result c.requires.ordered c.requires.lengths c.requires.here c.index-known-at.is c.cites-i.ensures).numbered.0

pub bounds-known-j-2 : goal.bounds-known-j-2
bounds-known-j-2 c = (are_causes c.args.known.now c.args.numbers.now c.args.at c.cites-i.result.0 c.cites-i.result.1 c.cites-i.result.2 c.index-known-at.result c.requires.ordered c.requires.lengths c.requires.here c.index-known-at.is c.cites-i.ensures).within.1

pub bounds-numbers-j-2 : goal.bounds-numbers-j-2
bounds-numbers-j-2 c = (are_causes c.args.known.now c.args.numbers.now c.args.at c.cites-i.result.0 c.cites-i.result.1 c.cites-i.result.2 c.index-known-at.result c.requires.ordered c.requires.lengths c.requires.here c.index-known-at.is c.cites-i.ensures).numbered.1

pub returns-then-is_open : goal.returns-then-is_open
returns-then-is_open c =
    let both = are_causes c.args.known.now c.args.numbers.now c.args.at c.cites-i.result.0 c.cites-i.result.1 c.cites-i.result.2 c.index-known-at.result c.requires.ordered c.requires.lengths c.requires.here c.index-known-at.is c.cites-i.ensures in
    record {
      open_there = open_by c.args.known.now c.args.numbers.now c.cites-i.result.1 c.index-known-j.result both.within.1 c.index-known-j.is (sym c.is_open.ensures ∙ c.if-is_open.true);
      below = both.before.1;
      cause = both.causes.1;
      ready = tt;
    }

pub returns-then-is_open-2 : goal.returns-then-is_open-2
returns-then-is_open-2 c =
    let both = are_causes c.args.known.now c.args.numbers.now c.args.at c.cites-i.result.0 c.cites-i.result.1 c.cites-i.result.2 c.index-known-at.result c.requires.ordered c.requires.lengths c.requires.here c.index-known-at.is c.cites-i.ensures in
    record {
      open_there = open_by c.args.known.now c.args.numbers.now c.cites-i.result.0 c.index-known-i.result both.within.0 c.index-known-i.is (sym c.is_open-2.ensures ∙ c.if-is_open-2.true);
      below = both.before.0;
      cause = both.causes.0;
      ready = tt;
    }

pub returns-then-is_open-3 : goal.returns-then-is_open-3
returns-then-is_open-3 c =
    let both = are_causes c.args.known.now c.args.numbers.now c.args.at c.cites-i.result.0 c.cites-i.result.1 c.cites-i.result.2 c.index-known-at.result c.requires.ordered c.requires.lengths c.requires.here c.index-known-at.is c.cites-i.ensures in
    record {
      open_there = open_by c.args.known.now c.args.numbers.now c.cites-i.result.1 c.index-known-j-2.result both.within.1 c.index-known-j-2.is (sym c.is_open-3.ensures ∙ c.if-is_open-3.true);
      below = both.before.1;
      cause = both.causes.1;
      ready = tt;
    }

pub returns-clause-ready : goal.returns-clause-ready
returns-clause-ready c =
    ready_by c.args.known.now c.args.numbers.now c.args.at c.cites-i.result.0 c.cites-i.result.1 c.cites-i.result.2 c.index-known-at.result c.index-known-i.result c.index-known-j-2.result
    c.requires.ordered (open_within c.args.known.now c.args.numbers.now c.args.at c.requires.here) c.index-known-at.is c.cites-i.ensures c.index-known-i.is c.index-known-j-2.is
    (sym c.is_open-2.ensures ∙ c.if-is_open-2.false) (sym c.is_open-3.ensures ∙ c.if-is_open-3.false)
