use Rattle.std.proofs.Common.{◌≡◌}
use Rattle.std.specs.Prelude.{Some, slice_get}
use Rattle.registry.specs.Registry.{needs_of}
use Rattle.walk.specs.Listing.{ArePassed, IsListing, IsPassedTo}
use Rattle.walk.specs.Walks.{Grows}
use Rattle.walk.proofs.listing.pass_dependencies.Given as goal

abbrev pub invariant-loop-index : goal.invariant-loop-index
invariant-loop-index g l = record {
  listing : IsListing l.registry.packages l.request.needs (g.C.Chooser.chooses l.chooser) l.found.entries;
  grown : Grows l.fn.found.entries l.found.entries;
  passed : IsPassedTo l.registry.packages l.request.needs l.found.entries l.place;
  at : slice_get l.found.entries l.place ≡ Some l.version;
  here : ArePassed l.registry.packages l.found.entries (needs_of l.registry.packages l.version.0 l.version.1) l.index;
}
