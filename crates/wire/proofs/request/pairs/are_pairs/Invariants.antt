use Rattle.std.proofs.Common.{◌≡◌, drop, is_some}
use Rattle.serde_json.specs.View.{items_view}
use Rattle.wire.specs.Members.{each_of}
use Rattle.wire.specs.Shapes.{pair_of}
use Rattle.wire.proofs.request.pairs.are_pairs.Given as goal

abbrev pub invariant-loop-item : goal.invariant-loop-item
invariant-loop-item l = is_some (each_of pair_of (items_view (drop l.item-index l.items))) ≡ is_some (each_of pair_of (items_view l.items))
