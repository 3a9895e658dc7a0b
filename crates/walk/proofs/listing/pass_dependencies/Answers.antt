use Rattle.std.proofs.Common.{◌≤◌, arith, length}
use Rattle.std.specs.Prelude.{None, Some}
use Rattle.registry.specs.Registry.{needs_of}
use Rattle.walk.specs.Listing.{PassesAt}
use Rattle.walk.proofs.Lists.{grown-grown, grown_none}
use Rattle.walk.proofs.Listings.{at_grown, next_by_dependency, next_dependency, pass, passed_all, passed_more, to_grown, to_more}
use Rattle.walk.proofs.listing.pass_dependencies.Goals as goal

pub loop-index-init : goal.loop-index-init
loop-index-init g c = record {
  listing = c.requires.listing;
  grown = grown_none c.args.found.now.entries;
  passed = c.requires.passed;
  at = c.entry_at-version.ensures.at;
  here = λ j line lt at. absurd (omega (arith, lt));
}

pub loop-index-preserved : goal.loop-index-preserved
loop-index-preserved g c =
    let packages = c.args.registry.now.packages in
    let needs = c.args.request.now.needs in
    let chooses = g.C.Chooser.chooses c.args.chooser.now in
    let old = c.loop-index.found.entries in
    let new = c.pass_dependency.new.found.entries in
    let version = c.entry_at-version.result in
    let inv = c.loop-index.invariant in
    let d : PassesAt packages chooses (needs_of packages version.0 version.1) c.loop-index.index old new None = rw c.in_default.is at c.in_ok-pkg.ensures in
    let one = pass packages needs chooses d.0 old new None inv.listing
    (λ p numbered none. next_dependency packages old needs c.args.place version c.loop-index.index d.0 p inv.passed inv.at d.1 inv.here numbered none) d.2 in
    record {
      listing = one.listing;
      grown = grown-grown c.args.found.now.entries old new inv.grown one.grown;
      passed = to_grown packages needs old new c.args.place version one.grown inv.at inv.passed;
      at = at_grown old new c.args.place version one.grown inv.at;
      here = passed_more packages old new (needs_of packages version.0 version.1) c.loop-index.index d.0 one.grown inv.here d.1 one.passed;
    }

pub returns-in-Some : goal.returns-in-Some
returns-in-Some g c =
    let packages = c.args.registry.now.packages in
    let needs = c.args.request.now.needs in
    let chooses = g.C.Chooser.chooses c.args.chooser.now in
    let old = c.loop-index.found.entries in
    let new = c.pass_dependency.new.found.entries in
    let version = c.entry_at-version.result in
    let inv = c.loop-index.invariant in
    let d : PassesAt packages chooses (needs_of packages version.0 version.1) c.loop-index.index old new (Some c.in-Some.pkg) = rw c.in-Some.is at c.in_ok-pkg.ensures in
    let one = pass packages needs chooses d.0 old new (Some c.in-Some.pkg) inv.listing
    (λ p numbered none. next_dependency packages old needs c.args.place version c.loop-index.index d.0 p inv.passed inv.at d.1 inv.here numbered none) d.2 in
    record {
      grown = grown-grown c.args.found.now.entries old new inv.grown one.grown;
      listing = one.listing;
      passed = tt;
      next = next_by_dependency packages needs chooses new version.0 version.1 c.loop-index.index c.in-Some.pkg d.0 (inv.listing.chosen c.args.place version inv.at) d.1 one.comes.0 one.comes.1 one.comes.2;
    }

pub returns : goal.returns
returns g c =
    let packages = c.args.registry.now.packages in
    let version = c.entry_at-version.result in
    let inv = c.loop-index.invariant in
    let all : length (needs_of packages version.0 version.1) ≤ c.loop-index.index = omega (arith, c.needs_count-count.ensures, c.loop-index-test.false) in
    record {
      grown = inv.grown;
      listing = inv.listing;
      passed = to_more packages c.args.request.now.needs c.loop-index.found.entries c.args.place version inv.at inv.passed
          (passed_all packages c.loop-index.found.entries (needs_of packages version.0 version.1) c.loop-index.index all inv.here);
      next = tt;
    }
