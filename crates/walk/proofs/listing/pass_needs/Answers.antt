use Rattle.std.proofs.Common.{◌≡◌, ◌<◌, ◌≤◌, ℕ, List, arith, get_or, length, subst}
use Rattle.std.specs.Prelude.{None, Option, Some, slice_get}
use Rattle.versions.specs.Words.{Text}
use Rattle.registry.specs.Registry.{Packages}
use Rattle.registry.specs.Selections.{Choices}
use Rattle.walk.specs.Listing.{ArePassed, AreInOrder, IsListing, PassesAt}
use Rattle.walk.specs.Newest.{in_name_order}
use Rattle.walk.proofs.Lists.{grown-grown, grown_none}
use Rattle.walk.proofs.Listings.{IsPass, next_by_need, next_need, pass, passed_all, passed_more}
use Rattle.walk.proofs.NeedsInOrder.{in_order_at, length_in_order, place_read, within_at}
use Rattle.walk.proofs.listing.pass_needs.Goals as goal

-- a need that was passed in its turn
record IsTurn (packages : Packages) (needs : List (Text × Text)) (chooses : Choices) (i index : ℕ) (old new : List (ℕ × ℕ)) (stopped : Option ℕ) : Type 0 where
  line : Text × Text
  at : slice_get needs index ≡ Some line
  in_order : slice_get (in_name_order needs) i ≡ Some line
  passes : IsPass packages needs chooses line old new stopped

turn : (packages : Packages) (given needs : List (Text × Text)) (chooses : Choices) (places : List ℕ) (i index : ℕ) (old new : List (ℕ × ℕ)) (stopped : Option ℕ) → given ≡ needs → index ≡ get_or places i 0
    → AreInOrder given places → i < length places → IsListing packages needs chooses old → ArePassed packages old (in_name_order needs) i → PassesAt packages chooses given index old new stopped
    → IsTurn packages needs chooses i index old new stopped
turn packages given needs chooses places i index old new stopped same read ordered lt listing passed visited =
    let order = subst (λ (ns : List (Text × Text)). AreInOrder ns places) same ordered in
    let d : PassesAt packages chooses needs index old new stopped = subst (λ (ns : List (Text × Text)). PassesAt packages chooses ns index old new stopped) same visited in
    let here : slice_get (in_name_order needs) i ≡ Some d.0 = in_order_at needs places i d.0 order lt (subst (λ n. slice_get needs n ≡ Some d.0) read d.1) in
    record {
      line = d.0;
      at = d.1;
      in_order = here;
      passes = pass packages needs chooses d.0 old new stopped listing (λ p numbered none. next_need packages old needs i d.0 p here passed numbered none) d.2;
    }

pub pass_need-requires : goal.pass_need-requires
pass_need-requires g c =
    let places = c.in_ok-places.places.items in
    let read = place_read places c.loop-i.i c.index-index.result.now (omega arith) c.index-index.ensures in
    rw read (within_at (length c.needs-needs.result.now) places c.loop-i.i c.in_ok-places.ensures.within (omega arith))

pub loop-i-init : goal.loop-i-init
loop-i-init g c = record {
  listing = c.requires;
  grown = grown_none c.args.found.now.entries;
  passed = λ j line lt at. absurd (omega (arith, lt));
}

pub loop-i-preserved : goal.loop-i-preserved
loop-i-preserved g c =
    let packages = c.args.registry.now.packages in
    let needs = c.args.request.now.needs in
    let old = c.loop-i.found.entries in
    let new = c.pass_need.new.found.entries in
    let read = place_read c.in_ok-places.places.items c.loop-i.i c.index-index.result.now (omega arith) c.index-index.ensures in
    let one = turn packages c.needs-needs.result.now needs (g.C.Chooser.chooses c.args.chooser.now) c.in_ok-places.places.items c.loop-i.i c.index-index.result.now old new None c.needs-needs.ensures.needs read
    c.in_ok-places.ensures (omega arith) c.loop-i.invariant.listing c.loop-i.invariant.passed (rw c.in_default.is at c.in_ok-pkg.ensures) in
    record {
      listing = one.passes.listing;
      grown = grown-grown c.args.found.now.entries old new c.loop-i.invariant.grown one.passes.grown;
      passed = passed_more packages old new (in_name_order needs) c.loop-i.i one.line one.passes.grown c.loop-i.invariant.passed one.in_order one.passes.passed;
    }

pub returns-in-Some : goal.returns-in-Some
returns-in-Some g c =
    let packages = c.args.registry.now.packages in
    let needs = c.args.request.now.needs in
    let chooses = g.C.Chooser.chooses c.args.chooser.now in
    let old = c.loop-i.found.entries in
    let new = c.pass_need.new.found.entries in
    let read = place_read c.in_ok-places.places.items c.loop-i.i c.index-index.result.now (omega arith) c.index-index.ensures in
    let one = turn packages c.needs-needs.result.now needs chooses c.in_ok-places.places.items c.loop-i.i c.index-index.result.now old new (Some c.in-Some.pkg) c.needs-needs.ensures.needs read
    c.in_ok-places.ensures (omega arith) c.loop-i.invariant.listing c.loop-i.invariant.passed (rw c.in-Some.is at c.in_ok-pkg.ensures) in
    record {
      listing = one.passes.listing;
      grown = grown-grown c.args.found.now.entries old new c.loop-i.invariant.grown one.passes.grown;
      passed = tt;
      next = next_by_need packages needs chooses new c.index-index.result.now c.in-Some.pkg one.line one.at one.passes.comes.0 one.passes.comes.1 one.passes.comes.2;
    }

pub returns : goal.returns
returns g c =
    let needs = c.args.request.now.needs in
    let places = c.in_ok-places.places.items in
    let order = subst (λ (ns : List (Text × Text)). AreInOrder ns places) c.needs-needs.ensures.needs c.in_ok-places.ensures in
    let all : length (in_name_order needs) ≤ c.loop-i.i = omega (arith, length_in_order needs places order) in
    record {
      listing = c.loop-i.invariant.listing;
      grown = c.loop-i.invariant.grown;
      passed = passed_all c.args.registry.now.packages c.loop-i.found.entries (in_name_order needs) c.loop-i.i all c.loop-i.invariant.passed;
      next = tt;
    }
