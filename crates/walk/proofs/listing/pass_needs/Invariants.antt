use Rattle.walk.specs.Listing.{ArePassed, IsListing}
use Rattle.walk.specs.Newest.{in_name_order}
use Rattle.walk.specs.Walks.{Grows}
use Rattle.walk.proofs.listing.pass_needs.Given as goal

abbrev pub invariant-loop-i : goal.invariant-loop-i
invariant-loop-i g l = record {
  listing : IsListing l.registry.packages l.request.needs (g.C.Chooser.chooses l.chooser) l.found.entries;
  grown : Grows l.fn.found.entries l.found.entries;
  passed : ArePassed l.registry.packages l.found.entries (in_name_order l.request.needs) l.i;
}
