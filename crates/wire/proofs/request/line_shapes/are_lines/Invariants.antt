use Rattle.std.proofs.Common.{◌≡◌, drop, is_some}
use Rattle.serde_json.specs.View.{items_view}
use Rattle.wire.specs.Members.{each_of}
use Rattle.wire.specs.NamedShapes.{line_in}
use Rattle.wire.proofs.request.line_shapes.are_lines.Given as goal

abbrev pub invariant-loop-item : goal.invariant-loop-item
invariant-loop-item l = is_some (each_of line_in (items_view (drop l.item-index l.items))) ≡ is_some (each_of line_in (items_view l.items))
