use Rattle.std.proofs.Common.{◌≡◌, ◌<◌, ℕ}
use Rattle.std.specs.Prelude.{Some, slice_get}
use Rattle.versions.specs.Words.{Text}
use Rattle.registry.specs.Places.{StandsAt, named_of}
use Rattle.registry.specs.declared.place.Place.{Place}
use Rattle.registry.proofs.ready.right_places.Given as goal

abbrev pub invariant-loop-index : goal.invariant-loop-index
invariant-loop-index l = record {
  right : (j : ℕ) (place : Place) → j < l.index → slice_get l.places j ≡ Some place
      → (need : Text × Text) × (slice_get l.needs j ≡ Some need) × StandsAt l.names.keys (named_of l.lists) need place;
}
