use Rattle.std.proofs.Common.{◌≡◌, ◌++◌, drop, length, take}
use Rattle.std.specs.List.{list_any}
use Rattle.std.specs.Str.{bytes_eq}
use Rattle.registry.specs.Places.{Extends}
use Rattle.registry.specs.Publications.{lists_of}
use Rattle.registry.specs.Rooms.{AreEmpty, names_in, unknown_names}
use Rattle.registry.proofs.ready.name_needs.Given as goal

abbrev pub invariant-loop-need : goal.invariant-loop-need
invariant-loop-need l = record {
  equal : l.named.needs ≡ take l.need-index l.needs;
  named : names_in l.named.added.items ++ unknown_names (λ name. list_any (bytes_eq name) l.names.keys) (drop l.need-index l.needs) ≡ unknown_names (λ name. list_any (bytes_eq name) l.names.keys) l.needs;
  empty : AreEmpty l.named.added.items;
  lists : lists_of l.lists.items ≡ lists_of l.initial.lists.items;
  extends : Extends l.names.keys l.initial.lists.items l.names.keys l.lists.items;
  count : length l.lists.items ≡ length l.initial.lists.items;
}
