use Rattle.std.proofs.Common.{◌≡◌, [], take, unwrap_or}
use Rattle.serde_json.specs.View.{items_view}
use Rattle.wire.specs.NamedShapes.{ordinals_from}
use Rattle.wire.proofs.request.ordinals.listed.Given as goal

abbrev pub invariant-loop-item : goal.invariant-loop-item
invariant-loop-item l = l.ordinals.items ≡ take l.item-index (unwrap_or (ordinals_from 0 (items_view l.items)) [])
