use Rattle.std.proofs.Common.{◌≡◌, ◌≤◌, ◌^◌, drop, is_some}
use Rattle.serde_json.specs.View.{items_view}
use Rattle.wire.specs.NamedShapes.{ordinals_from}
use Rattle.wire.proofs.request.ordinals.are_ordinals.Given as goal

-- whether the rest ascends from where it stands is whether all does
abbrev pub invariant-loop-item : goal.invariant-loop-item
invariant-loop-item l = (is_some (ordinals_from l.low (items_view (drop l.item-index l.items))) ≡ is_some (ordinals_from 0 (items_view l.items))) × (l.low ≤ 2 ^ 32)
