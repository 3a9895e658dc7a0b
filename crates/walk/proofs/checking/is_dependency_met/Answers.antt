use Rattle.std.proofs.Common.{◌≡◌, ◌<◌, length, nat_lt, refl, rules, sym, true}
use Rattle.std.proofs.lemmas.Option.{slice_get_read}
use Rattle.walk.specs.Choosing.{choice_of}
use Rattle.walk.proofs.Checked.{dependency_met, placed_met}
use Rattle.walk.proofs.checking.is_dependency_met.Goals as goal

pub returns-in-Some : goal.returns-in-Some
returns-in-Some c = λ yes.
    let registry = c.args.registry.now in
    let places = c.args.places.now in
    let place = c.in-Some.place.now in
    let there : nat_lt c.args.index (length places) ≡ true = sym c.in-Some.ensures.lookup.0 in
    let within : c.args.index < length places = search rules in
    let at = c.requires.places c.args.index place (slice_get_read places (length places) c.args.index place refl within c.in-Some.ensures.lookup.1) in
    placed_met registry.packages registry.named c.args.version.0 c.args.version.1 c.args.index place (choice_of c.args.found.now.entries) at (c.is_place_met.ensures yes)

pub returns : goal.returns
returns c = λ yes.
    dependency_met c.args.registry.now.packages c.args.version.0 c.args.version.1 c.args.index c.in_ok-target.target _ (choice_of c.args.found.now.entries) c.in_ok-target.ensures (c.is_found_in.ensures yes)
