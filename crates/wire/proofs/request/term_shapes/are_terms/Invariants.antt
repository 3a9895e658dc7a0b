use Rattle.std.proofs.Common.{◌≡◌, drop, is_some}
use Rattle.serde_json.specs.View.{items_view}
use Rattle.wire.specs.Members.{each_of}
use Rattle.wire.specs.NamedShapes.{term_in}
use Rattle.wire.proofs.request.term_shapes.are_terms.Given as goal

abbrev pub invariant-loop-item : goal.invariant-loop-item
invariant-loop-item l = is_some (each_of term_in (items_view (drop l.item-index l.items))) ≡ is_some (each_of term_in (items_view l.items))
