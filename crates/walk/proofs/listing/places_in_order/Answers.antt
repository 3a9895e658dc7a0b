use Rattle.std.proofs.Common.{◌≡◌, ◌∙◌, ◌<◌, ◌-◌, ap, arith, drop, length, suc, sym}
use Rattle.walk.specs.Newest.{in_name_order}
use Rattle.walk.proofs.NeedsInOrder.{none_left, ordered_more, within_insert}
use Rattle.walk.proofs.listing.places_in_order.Goals as goal

pub needs-init : goal.needs-init
needs-init c = record {
  own = omega arith;
  within = rw c.in_ok-places.ensures.items tt;
  order = rw c.in_ok-places.ensures.items (ap in_name_order (sym (none_left c.args.needs.now)));
}

pub needs-preserved : goal.needs-preserved
needs-preserved c =
    let needs = c.args.needs.now in
    let places = c.needs.places.items in
    let own = c.needs.own - 1 in
    let lt : own < length needs = let h = c.needs.invariant.own in omega arith in
    let next : c.needs.own ≡ suc own = omega arith in
    let goes = rw c.deref.ensures.value at c.place_among-place.ensures.place in
    record {
      own = omega (arith, lt);
      within = rw c.in_ok-insert.ensures.items (within_insert (length needs) places c.place_among-place.result own lt c.needs.invariant.within);
      order = rw c.in_ok-insert.ensures.items (ordered_more needs places own c.place_among-place.result lt (c.needs.invariant.order ∙ ap (λ n. in_name_order (drop n needs)) next) goes);
    }

pub returns : goal.returns
returns c = record {
  within = c.needs.invariant.within;
  order = c.needs.invariant.order ∙ (let none : c.needs.own ≡ 0 = omega arith in ap (λ n. in_name_order (drop n c.args.needs.now)) none);
}
