use Rattle.std.proofs.Common.{◌≡◌, ◌<◌, ◌≤◌, ◌+◌, ℕ, length, vec_len, vec_capacity}
use Rattle.std.specs.Prelude.{slice_index}
use Rattle.std.specs.Vec.Iter.{into_iter_items, into_iter_len}
use Rattle.indexmap.specs.IndexSet.{spare}
use Rattle.registry.specs.Places.{Extends}
use Rattle.registry.specs.Publications.{packages_in, rooms_of}
use Rattle.registry.specs.Rooms.{AreEmpty, names_in}
use Rattle.registry.specs.Step.{with_listed}
use Rattle.registry.proofs.growing.add_names.Given as goal

abbrev pub invariant-loop-name : goal.invariant-loop-name
invariant-loop-name l = record {
  paired : length l.names.keys ≡ length l.lists.items;
  names_room : length (into_iter_items l.name-iterator) ≤ spare l.names;
  lists_room : vec_len l.lists + length (into_iter_items l.name-iterator) ≤ vec_capacity l.lists;
  packages : with_listed (packages_in l.names.keys l.lists.items) (names_in (into_iter_items l.name-iterator)) ≡ with_listed (packages_in l.fn.names.keys l.fn.lists.items) (names_in l.fn.added.items);
  stay : (i : ℕ) → i < length l.fn.lists.items → (i < length l.lists.items) × (slice_index (rooms_of l.lists.items) i ≡ slice_index (rooms_of l.fn.lists.items) i);
  empty : AreEmpty (into_iter_items l.name-iterator);
  extends : Extends l.fn.names.keys l.fn.lists.items l.names.keys l.lists.items;
  counted : into_iter_len l.name-iterator ≡ length (into_iter_items l.name-iterator);
}
