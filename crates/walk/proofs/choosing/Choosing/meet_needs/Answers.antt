use Rattle.std.proofs.Common.{◌≡◌, ◌≤◌, ◌∙◌, arith, length, rules, subst}
use Rattle.std.proofs.lemmas.List.{take_all}
use Rattle.std.specs.Prelude.{List, Some, slice_get}
use Rattle.versions.specs.Words.{Text}
use Rattle.walk.specs.Best.{AreTargets}
use Rattle.walk.specs.Listing.{AreInOrder}
use Rattle.walk.specs.Newest.{in_name_order}
use Rattle.walk.proofs.Bests.{targets_more}
use Rattle.walk.proofs.NeedsInOrder.{in_order_at, length_in_order, place_read, within_at}
use Rattle.walk.proofs.choosing.Choosing.meet_needs.Goals as goal

pub loop-i-preserved : goal.loop-i-preserved
loop-i-preserved c =
    let packages = c.args.registry.now.packages in
    let needs = c.args.request.now.needs in
    let places = c.in_ok-places.places.items in
    let order = subst (λ (ns : List (Text × Text)). AreInOrder ns places) c.needs.ensures.needs c.in_ok-places.ensures in
    let at_i = place_read places c.loop-i.i c.index.result.now (omega arith) c.index.ensures in
    let asks = c.in_ok-meet_need.ensures.asks (search rules) in
    let here = in_order_at needs places c.loop-i.i asks.0 order (omega arith) (subst (λ n. slice_get needs n ≡ Some asks.0) at_i asks.2) in
    record {
      found = c.in_ok-meet_need.ensures.found ∙ c.loop-i.invariant.found;
      targets = targets_more packages (in_name_order needs) c.loop-i.i asks.1 asks.0 c.loop-i.self.asked.items c.meet_need.new.self.asked.items here asks.3 c.loop-i.invariant.targets asks.4;
      holds = c.in_ok-meet_need.ensures.holds;
    }

pub meet_need-requires-clause-within : goal.meet_need-requires-clause-within
meet_need-requires-clause-within c =
    let places = c.in_ok-places.places.items in
    let order = subst (λ (ns : List (Text × Text)). AreInOrder ns places) c.needs.ensures.needs c.in_ok-places.ensures in
    let at_i = place_read places c.loop-i.i c.index.result.now (omega arith) c.index.ensures in
    rw at_i (within_at (length c.args.request.now.needs) places c.loop-i.i order.within (omega arith))

pub returns-clause-targets : goal.returns-clause-targets
returns-clause-targets c = λ whole.
    let needs = c.args.request.now.needs in
    let places = c.in_ok-places.places.items in
    let order = subst (λ (ns : List (Text × Text)). AreInOrder ns places) c.needs.ensures.needs c.in_ok-places.ensures in
    let all : length (in_name_order needs) ≤ c.loop-i.i = omega (arith, length_in_order needs places order) in
    subst (λ (ls : List (Text × Text)). AreTargets c.args.registry.now.packages ls c.loop-i.self.asked.items) (take_all c.loop-i.i (in_name_order needs) all) c.loop-i.invariant.targets
